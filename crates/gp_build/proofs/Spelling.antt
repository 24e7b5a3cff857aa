-- Stacks that are compared by the numbers of their blocks are compared frame by frame.
use Rattle.std.proofs.Common.{◌≡◌, ℕ, zero, suc, ◌^◌, ◌<◌, All, Bool, true, false, List, [], ◌∷◌, ◌++◌, length, map, take, drop, get_or, slice_get, Some, Option, refl, sym, ap, ◌∙◌, subst, true≢false, if◌then◌else◌, arith}
use Rattle.std.specs.List.{list_any, AllByRecursion}
use Rattle.std.specs.Ordering.{nat_cmp, ordering_then, is_lt}
use Rattle.std.specs.Cmp.{IsTotalOrder, IsStrictWeakOrder}
use Rattle.std.specs.Cmp.Lexicographic.{slice_cmp, pointwise}
use Rattle.std.specs.declared.cmp.Ordering.{Ordering}
use Rattle.std.specs.declared.cmp.Ordering.TheVariants.{Less, Equal, Greater}
use Rattle.std.proofs.lemmas.Cmp.{then_total, back_total, on_total, lists_total, nat_cmp_total, tied_itself}
use Rattle.std.specs.List.Sorted.{IsSortedBy, IsStableBy}
use Rattle.std.proofs.lemmas.List.Sorted.{ranks_by}
use Rattle.std.proofs.lemmas.List.Elements.{All-from_recursion, recursion_from_All}
use Rattle.std.proofs.lemmas.List.{drop-drop, get_or_append_left, get_or_read, length-append, map-append}
use Rattle.indexmap.specs.IndexSet.{insert_key}
use Rattle.gp_isa.specs.declared.frame.Frame.{Frame}
use Rattle.gp_isa.specs.declared.parts.Parts.{Parts}
use Rattle.gp_build.specs.declared.ranks.Ranks.{Ranks}
use Rattle.gp_build.specs.declared.samples.Group.{Group}
use Rattle.gp_build.specs.declared.spelled.Spelled.{Spelled}
use Rattle.gp_build.specs.Samples.{group_cmp, put, in_order}
use Rattle.gp_build.specs.Shown.{same_frame, pair_cmp}
use Rattle.gp_build.specs.kept.Ranks.{ranked_cmp, AreRanks}
use Rattle.gp_build.specs.kept.Spelled.{blocks_of, rest_behind, block_at, number_cmp, spelled_cmp, IsNumber, Grows, Spells, IsSpelled}
use Rattle.gp_build.specs.laws.Alike.{both_first, both_second, same_frame-is}
use Rattle.gp_build.proofs.Order.{in_order-from_sort}
use Rattle.gp_build.proofs.Ranking.{ranked_total, ranked-is}
use Rattle.gp_build.proofs.Total.{pair_total}

-- ---- blocks that are the same

pub frames-is : (a b : List Frame) → pointwise same_frame a b ≡ true → a ≡ b
frames-is [] [] h = refl
frames-is [] (y ∷ ys) h = absurd (true≢false (sym h))
frames-is (x ∷ xs) [] h = absurd (true≢false (sym h))
frames-is (x ∷ xs) (y ∷ ys) h =
    λ i. same_frame-is x y (both_first (same_frame x y) (pointwise same_frame xs ys) h) i ∷ frames-is xs ys (both_second (same_frame x y) (pointwise same_frame xs ys) h) i

-- ---- a table that grows

pub grows_none : (table : List (List Frame)) → Grows table table
grows_none table = record { longer = omega arith; same = λ n h. refl }

pub grows_both : (a b c : List (List Frame)) → Grows a b → Grows b c → Grows a c
grows_both a b c first second = record {
  longer = let x = first.longer in let y = second.longer in omega arith;
  same = λ n h. let x = first.longer in second.same n (omega arith) ∙ first.same n h;
}

pub grows_insert : (table new : List (List Frame)) (block : List Frame) → new ≡ insert_key (pointwise same_frame) table block → Grows table new
grows_insert table new block is = subst (Grows table) (sym is) (by (list_any (pointwise same_frame block) table))
  where
    by : (b : Bool) → Grows table (if b then table else table ++ block ∷ [])
    by true = grows_none table
    by false = record {
      longer = omega (arith, length-append table (block ∷ []));
      same = λ n h. get_or_append_left table (block ∷ []) [] n h;
    }

-- what a table has at a number
pub number_found : (table : List (List Frame)) (n : ℕ) (block found : List Frame) → slice_get table n ≡ Some found → pointwise same_frame block found ≡ true → IsNumber table n block
number_found table n block found there is = record {
  within = (got table n there).0;
  is = (got table n there).1 ∙ sym (frames-is block found is);
}
  where
    is_some : Option (List Frame) → Bool
    is_some (Some x) = true
    is_some _ = false

    got : (xs : List (List Frame)) (i : ℕ) → slice_get xs i ≡ Some found → (i < length xs) × (get_or xs i [] ≡ found)
    got [] i e = absurd (true≢false (sym (ap is_some e)))
    got (x ∷ xs) zero e = (omega arith, cc)
    got (x ∷ xs) (suc i) e = let rest = got xs i e in (omega (arith, rest.0), rest.1)

-- what stands at a number
pub number_met : (table : List (List Frame)) (n : ℕ) (block found : List Frame) → n < length table → found ≡ get_or table n found → pointwise same_frame found block ≡ true → IsNumber table n block
number_met table n block found within read is = record {
  within = within;
  is = sym (get_or_read table n found within read []) ∙ frames-is found block is;
}

pub number_kept : (old new : List (List Frame)) (n : ℕ) (block : List Frame) → Grows old new → IsNumber old n block → IsNumber new n block
number_kept old new n block grows number = record {
  within = let a = grows.longer in let b = number.within in omega arith;
  is = grows.same n number.within ∙ number.is;
}

spells_kept : (old new : List (List Frame)) (ns : List ℕ) (bs : List (List Frame)) → Grows old new → Spells old ns bs → Spells new ns bs
spells_kept old new [] [] grows spells = spells
spells_kept old new [] (b ∷ bs) grows spells = spells
spells_kept old new (n ∷ ns) [] grows spells = spells
spells_kept old new (n ∷ ns) (b ∷ bs) grows spells = (number_kept old new n b grows spells.0, spells_kept old new ns bs grows spells.1)

spelled_kept : (old new : List (List Frame)) (all : List Spelled) → Grows old new → AllByRecursion (IsSpelled old) all → AllByRecursion (IsSpelled new) all
spelled_kept old new [] grows all = tt
spelled_kept old new (it ∷ its) grows all =
    (spells_kept old new it.blocks (blocks_of 4 it.group.shown.stack) grows all.0, spelled_kept old new its grows all.1)

all_push : {X : Type 0} (P : X → Type 0) (xs : List X) (x : X) → AllByRecursion P xs → P x → AllByRecursion P (xs ++ x ∷ [])
all_push P [] x all here = (here, tt)
all_push P (y ∷ ys) x all here = (all.0, all_push P ys x all.1 here)

-- One group more is spelled.
pub groups_push : (all pushed : List Spelled) (seen : List Group) (it : Spelled) → pushed ≡ all ++ it ∷ [] → map (λ (it : Spelled). it.group) all ≡ seen
    → map (λ (it : Spelled). it.group) pushed ≡ seen ++ it.group ∷ []
groups_push all pushed seen it is before =
    ap (map (λ (it : Spelled). it.group)) is ∙ map-append (λ (it : Spelled). it.group) all (it ∷ []) ∙ ap (λ (l : List Group). l ++ it.group ∷ []) before

pub spelled_push : (old new : List (List Frame)) (all pushed : List Spelled) (it : Spelled) (stack : List Frame) → Grows old new → pushed ≡ all ++ it ∷ []
    → Spells new it.blocks (blocks_of 4 stack) → stack ≡ it.group.shown.stack → AllByRecursion (IsSpelled old) all → AllByRecursion (IsSpelled new) pushed
spelled_push old new all pushed it stack grows is spells same before =
    subst (AllByRecursion (IsSpelled new)) (sym is)
    (all_push (IsSpelled new) all it (spelled_kept old new all grows before)
    (subst (λ (stack : List Frame). Spells new it.blocks (blocks_of 4 stack)) same spells))

-- ---- stacks in blocks are compared frame by frame

then_assoc : (a b c : Ordering) → ordering_then (ordering_then a b) c ≡ ordering_then a (ordering_then b c)
then_assoc Less b c = refl
then_assoc Equal b c = refl
then_assoc Greater b c = refl

module _ (R : Frame → Frame → Ordering) where
  parted_cmp : (n : ℕ) (a b : List Frame) → slice_cmp R a b ≡ ordering_then (slice_cmp R (take n a) (take n b)) (slice_cmp R (drop n a) (drop n b))
  parted_cmp zero a b = refl
  parted_cmp (suc n) [] [] = refl
  parted_cmp (suc n) [] (y ∷ ys) = refl
  parted_cmp (suc n) (x ∷ xs) [] = refl
  parted_cmp (suc n) (x ∷ xs) (y ∷ ys) =
      ap (ordering_then (R x y)) (parted_cmp n xs ys)
      ∙ sym (then_assoc (R x y) (slice_cmp R (take n xs) (take n ys)) (slice_cmp R (drop n xs) (drop n ys)))

  blocks_cmp : (n : ℕ) (a b : List Frame)
      → slice_cmp R a b ≡ ordering_then (slice_cmp (slice_cmp R) (blocks_of n a) (blocks_of n b)) (slice_cmp R (rest_behind n a) (rest_behind n b))
  blocks_cmp zero a b = refl
  blocks_cmp (suc n) a b =
      parted_cmp 8 a b
      ∙ ap (ordering_then (slice_cmp R (take 8 a) (take 8 b))) (blocks_cmp n (drop 8 a) (drop 8 b))
      ∙ sym (then_assoc (slice_cmp R (take 8 a) (take 8 b)) (slice_cmp (slice_cmp R) (blocks_of n (drop 8 a)) (blocks_of n (drop 8 b)))
      (slice_cmp R (rest_behind (suc n) a) (rest_behind (suc n) b)))

  -- numbers that spell blocks are compared as these
  numbers_cmp : (table : List (List Frame)) (ns ms : List ℕ) (bs cs : List (List Frame)) → Spells table ns bs → Spells table ms cs
      → slice_cmp (λ n m. slice_cmp R (block_at table n) (block_at table m)) ns ms ≡ slice_cmp (slice_cmp R) bs cs
  numbers_cmp table [] [] [] [] s t = refl
  numbers_cmp table [] (m ∷ ms) [] (c ∷ cs) s t = refl
  numbers_cmp table (n ∷ ns) [] (b ∷ bs) [] s t = refl
  numbers_cmp table (n ∷ ns) (m ∷ ms) (b ∷ bs) (c ∷ cs) s t =
      λ i. ordering_then (slice_cmp R (s.0.is i) (t.0.is i)) (numbers_cmp table ns ms bs cs s.1 t.1 i)
  numbers_cmp table [] ms (b ∷ bs) cs s t = absurd s
  numbers_cmp table (n ∷ ns) ms [] cs s t = absurd s
  numbers_cmp table [] [] [] (c ∷ cs) s t = absurd t
  numbers_cmp table [] (m ∷ ms) [] [] s t = absurd t
  numbers_cmp table (n ∷ ns) [] (b ∷ bs) (c ∷ cs) s t = absurd t
  numbers_cmp table (n ∷ ns) (m ∷ ms) (b ∷ bs) [] s t = absurd t

rest_is : (stack : List Frame) → rest_behind 4 stack ≡ drop 32 stack
rest_is stack =
    drop-drop 8 8 (drop 8 (drop 8 stack)) ∙ drop-drop 16 8 (drop 8 stack) ∙ drop-drop 24 8 stack

module _ (R : Frame → Frame → Ordering) (table : List (List Frame)) where
  -- where groups are spelled, their order is that of their stacks
  spelled_cmp-is : (a b : Spelled) → IsSpelled table a → IsSpelled table b
      → spelled_cmp R table a b
      ≡ ordering_then (nat_cmp b.group.count a.group.count) (ordering_then (slice_cmp R a.group.shown.stack b.group.shown.stack) (slice_cmp pair_cmp a.group.shown.labels b.group.shown.labels))
  spelled_cmp-is a b s t =
      let stack : List Frame = a.group.shown.stack in
      let other : List Frame = b.group.shown.stack in
      let stacks : ordering_then (slice_cmp (number_cmp R table) a.blocks b.blocks) (slice_cmp R (drop 32 stack) (drop 32 other)) ≡ slice_cmp R stack other =
      (λ i. ordering_then (numbers_cmp R table a.blocks b.blocks (blocks_of 4 stack) (blocks_of 4 other) s t i) (slice_cmp R (sym (rest_is stack) i) (sym (rest_is other) i)))
      ∙ sym (blocks_cmp R 4 stack other) in
      ap (λ (o : Ordering). ordering_then (nat_cmp b.group.count a.group.count) (ordering_then o (slice_cmp pair_cmp a.group.shown.labels b.group.shown.labels))) stacks

  -- ---- the order is total

  module _ (total : IsTotalOrder R) where
    number_total : IsTotalOrder (number_cmp R table)
    number_total = on_total (λ (n : ℕ). block_at table n) (lists_total total)

    pub number_itself : (n : ℕ) → number_cmp R table n n ≡ Equal
    number_itself n = tied_itself number_total n

    pub spelled_total : IsTotalOrder (spelled_cmp R table)
    spelled_total =
        then_total (back_total (on_total (λ (it : Spelled). it.group.count) nat_cmp_total))
        (then_total
        (then_total (on_total (λ (it : Spelled). it.blocks) (lists_total number_total)) (on_total (λ (it : Spelled). drop 32 it.group.shown.stack) (lists_total total)))
        (on_total (λ (it : Spelled). it.group.shown.labels) (lists_total pair_total)))

-- ---- a list in order

module _ {X : Type 0} (before : X → X → Bool) (Q : X → Type 0) where
  all-put : (x : X) (ys : List X) → Q x → AllByRecursion Q ys → AllByRecursion Q (put before x ys)
  unfolding put
  all-put x [] here all = (here, tt)
  all-put x (y ∷ ys) here all = by (before y x) (all-put x ys here all.1)
    where
      by : (b : Bool) → AllByRecursion Q (put before x ys) → AllByRecursion Q (if b then y ∷ put before x ys else x ∷ y ∷ ys)
      by true rest = (all.0, rest)
      by false rest = (here, all)

  -- What holds of each of a list holds of each of the list in order.
  pub all-in_order : (xs : List X) → AllByRecursion Q xs → AllByRecursion Q (in_order before xs)
  unfolding in_order
  all-in_order [] all = tt
  all-in_order (x ∷ xs) all = all-put x (in_order before xs) all.0 (all-in_order xs all.1)

-- Where two tests agree on what a list has, the list in order, seen through a function, is what is seen in order.
module _ {X Y : Type 0} (f : X → Y) (before : X → X → Bool) (before' : Y → Y → Bool) (Q : X → Type 0) (same : (a b : X) → Q a → Q b → before a b ≡ before' (f a) (f b)) where
  map-put : (x : X) (ys : List X) → Q x → AllByRecursion Q ys → map f (put before x ys) ≡ put before' (f x) (map f ys)
  unfolding put
  map-put x [] here all = refl
  map-put x (y ∷ ys) here all =
      by (before y x) (map-put x ys here all.1)
      ∙ ap (λ (b : Bool). if b then f y ∷ put before' (f x) (map f ys) else f x ∷ f y ∷ map f ys) (same y x all.0 here)
    where
      by : (b : Bool) → map f (put before x ys) ≡ put before' (f x) (map f ys)
          → map f (if b then y ∷ put before x ys else x ∷ y ∷ ys) ≡ (if b then f y ∷ put before' (f x) (map f ys) else f x ∷ f y ∷ map f ys)
      by true rest = ap (λ (l : List Y). f y ∷ l) rest
      by false rest = refl

  map-in_order : (xs : List X) → AllByRecursion Q xs → map f (in_order before xs) ≡ in_order before' (map f xs)
  unfolding in_order
  map-in_order [] all = refl
  map-in_order (x ∷ xs) all =
      map-put x (in_order before xs) all.0 (all-in_order before Q xs all.1) ∙ ap (put before' (f x)) (map-in_order xs all.1)

-- A stable sort by numbers of blocks, and by ranks of functions, puts groups in their order.
pub ordered-is : (parts : Parts) (ranks : Ranks) (table : List (List Frame)) (groups : List Group) (all sorted : List Spelled) → AreRanks parts ranks
    → map (λ (it : Spelled). it.group) all ≡ groups → AllByRecursion (IsSpelled table) all
    → IsSortedBy (λ a b. is_lt (spelled_cmp (ranked_cmp ranks) table a b)) sorted → IsStableBy (λ a b. is_lt (spelled_cmp (ranked_cmp ranks) table a b)) all sorted
    → map (λ (it : Spelled). it.group) sorted ≡ in_order (λ a b. is_lt (group_cmp parts a b)) groups
ordered-is parts ranks table groups all sorted are is spelled is_sorted is_stable =
    let R : Frame → Frame → Ordering = ranked_cmp ranks in
    let before : Spelled → Spelled → Bool = λ a b. is_lt (spelled_cmp R table a b) in
    let order : IsStrictWeakOrder before = ranks_by (spelled_total R table (ranked_total ranks)) (λ (it : Spelled). it) in
    let same : (a b : Spelled) → IsSpelled table a → IsSpelled table b → before a b ≡ is_lt (group_cmp parts a.group b.group) = λ a b s t.
    ap is_lt (spelled_cmp-is R table a b s t
    ∙ ap (λ (S : Frame → Frame → Ordering). ordering_then (nat_cmp b.group.count a.group.count)
    (ordering_then (slice_cmp S a.group.shown.stack b.group.shown.stack) (slice_cmp pair_cmp a.group.shown.labels b.group.shown.labels)))
    (ranked-is parts ranks are)) in
    ap (map (λ (it : Spelled). it.group)) (in_order-from_sort order all sorted is_sorted is_stable)
    ∙ map-in_order (λ (it : Spelled). it.group) before (λ a b. is_lt (group_cmp parts a b)) (IsSpelled table) same all spelled
    ∙ ap (in_order (λ a b. is_lt (group_cmp parts a b))) is

-- ---- counts

unmapped : {X Y : Type 0} (P : Y → Type 0) (f : X → Y) (xs : List X) → AllByRecursion P (map f xs) → AllByRecursion (λ x. P (f x)) xs
unmapped P f [] all = tt
unmapped P f (x ∷ xs) all = (all.0, unmapped P f xs all.1)

-- Counts of groups are those of the groups that are spelled.
pub small-spelled : (groups : List Group) (all : List Spelled) → map (λ (it : Spelled). it.group) all ≡ groups → All (λ (group : Group). group.count < 2 ^ 63) groups
    → All (λ (it : Spelled). it.group.count < 2 ^ 63) all
small-spelled groups all is small =
    All-from_recursion (λ (it : Spelled). it.group.count < 2 ^ 63) all
    (unmapped (λ (group : Group). group.count < 2 ^ 63) (λ (it : Spelled). it.group) all
    (subst (AllByRecursion (λ (group : Group). group.count < 2 ^ 63)) (sym is)
    (recursion_from_All (λ (group : Group). group.count < 2 ^ 63) groups small)))
