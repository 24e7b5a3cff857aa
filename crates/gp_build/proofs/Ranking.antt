-- Functions are ordered by their ranks as by their names.
use Rattle.std.proofs.Common.{◌≡◌, ◌⊎◌, ℕ, ◌+◌, ◌<◌, ◌≤◌, Bool, true, false, List, [], ◌∷◌, ◌++◌, length, get_or, unwrap_or, Contains, refl, sym, ap, ◌∙◌, subst, ⊎_elim, true≢false, arith}
use Rattle.std.specs.Ordering.{nat_cmp, is_lt, ordering_reverse, ordering_then}
use Rattle.std.specs.Cmp.{IsTotalOrder, IsStrictWeakOrder, nat_cmp_is}
use Rattle.std.specs.Cmp.Lexicographic.{slice_cmp}
use Rattle.std.specs.declared.cmp.Ordering.{Ordering}
use Rattle.std.specs.declared.cmp.Ordering.TheVariants.{Less, Equal, Greater}
use Rattle.std.specs.List.Sorted.{IsSortedBy, IsPartitionedBy, IsPermutation}
use Rattle.std.proofs.lemmas.Cmp.{then_total, on_total, nat_cmp_total, nat_list_cmp_total, tied_itself, alike_right}
use Rattle.std.proofs.lemmas.List.{get_or_default, get_or_past, get_or_push, get_or_append_left, length_push}
use Rattle.std.proofs.lemmas.List.Sorted.{ranks_by, sorted_far, Contains-permutation}
use Rattle.std.proofs.lemmas.Option.{slice_get_past}
use Rattle.gp_isa.specs.declared.frame.Frame.{Frame}
use Rattle.gp_isa.specs.declared.parts.Parts.{Parts}
use Rattle.gp_build.specs.declared.ranks.Ranks.{Ranks}
use Rattle.gp_build.specs.Site.{function_of, nothing}
use Rattle.gp_build.specs.Shown.{frame_cmp}
use Rattle.gp_build.specs.kept.Ranks.{name_cmp, rank_of, ranked_cmp, AreByName, IsPlace, AreRanks}

either : (a b : ℕ) → (a < b) ⊎ (b ≤ a)
either a b = grind arith

-- What stands in a list of numbers from 0 on, one more at the end.
pub record Counts (n : ℕ) (order : List ℕ) : Type 0 where
  pub long : length order ≡ n
  pub each : (k : ℕ) → k < n → get_or order k 0 ≡ k

pub counts_more : (n : ℕ) (order more : List ℕ) → more ≡ order ++ n ∷ [] → Counts n order → Counts (n + 1) more
counts_more n order more is counts = subst (Counts (n + 1)) (sym is) (record {
  long = let long = length_push order n in let before = counts.long in omega arith;
  each = λ k below. ⊎_elim
      (λ (lower : k < n). let within = counts.long in get_or_append_left order (n ∷ []) 0 k (omega arith) ∙ counts.each k lower)
      (λ (upper : n ≤ k). let last : n ≡ k = omega arith in get_or_push order n 0 k (counts.long ∙ last) ∙ last)
      (either k n);
})

module _ (parts : Parts) where
  pub names_total : IsTotalOrder (name_cmp parts)
  names_total = on_total (λ (f : ℕ). (function_of parts f).name) nat_list_cmp_total

  -- The names of functions that the program doesn't have are empty.
  nameless : (f : ℕ) → length parts.functions ≤ f → (function_of parts f).name ≡ []
  nameless f past = ap (λ o. (unwrap_or o nothing).name) (slice_get_past parts.functions f past)

  -- All functions, and one that isn't there, in the order of their names.
  pub by_name-is : (n : ℕ) (order sorted : List ℕ) → n ≡ length parts.functions → Counts (n + 1) order → IsPermutation order sorted
      → IsSortedBy (λ f g. is_lt (name_cmp parts f g)) sorted → AreByName parts sorted
  by_name-is n order sorted count counts moved is_sorted = record {
    sorted = is_sorted;
    each = λ f. ⊎_elim
        (λ (has : f < n). named f (met f (omega arith)))
        (λ (past : n ≤ f).
        let at = named n (met n (omega arith)) in
        (at.0, at.1, at.2 ∙ nameless n (omega arith) ∙ sym (nameless f (omega arith))))
        (either f n);
  }
    where
      met : (f : ℕ) → f < n + 1 → Contains sorted f
      met f below =
          let long = counts.long in
          Contains-permutation order sorted f moved (f, omega arith, get_or_default order f f 0 (omega arith) ∙ counts.each f below)

      named : (f : ℕ) → Contains sorted f → (k : ℕ) × (k < length sorted) × ((function_of parts (get_or sorted k 0)).name ≡ (function_of parts f).name)
      named f has = (has.0, has.1, ap (λ (g : ℕ). (function_of parts g).name) (get_or_default sorted has.0 0 f has.1 ∙ has.2))

  module _ (order : List ℕ) (ordered : AreByName parts order) where
    abbrev pub before : ℕ → ℕ → Bool
    before f g = is_lt (name_cmp parts f g)

    weak : IsStrictWeakOrder before
    weak = ranks_by names_total (λ (f : ℕ). f)

    -- No function whose name is below stands behind one whose name isn't.
    pub parted : (f : ℕ) → IsPartitionedBy (λ g. before g f) order
    parted f i j d le within e = by (before (get_or order i d) f) refl
      where
        by : (b : Bool) → before (get_or order i d) f ≡ b → before (get_or order i d) f ≡ true
        by true h = h
        by false h = absurd (true≢false (sym e ∙ weak.chain (get_or order j d) (get_or order i d) f (sorted_far before weak order ordered.sorted i j d le within) h))

    behind : (p f k : ℕ) → IsPlace parts order p f → k < length order → before (get_or order k 0) f ≡ true → k < p
    behind p f k place within e =
        ⊎_elim (λ (h : k < p). h) (λ (h : p ≤ k). absurd (true≢false (sym e ∙ place.point.1 k 0 h within))) (either k p)

    at_or_behind : (p f k : ℕ) → IsPlace parts order p f → before (get_or order k 0) f ≡ false → p ≤ k
    at_or_behind p f k place e =
        ⊎_elim (λ (h : k < p). absurd (true≢false (sym (place.point.0 k 0 (omega arith) h) ∙ e))) (λ (h : p ≤ k). h) (either k p)

    -- A name below another has the lower place.
    lower : (p q f g : ℕ) → IsPlace parts order p f → IsPlace parts order q g → name_cmp parts f g ≡ Less → p < q
    lower p q f g a b e =
        let at = ordered.each f in
        let same : (h : ℕ) → before (get_or order at.0 0) h ≡ before f h = λ h. ap (λ (name : List ℕ). is_lt (slice_cmp nat_cmp name (function_of parts h).name)) at.2 in
        let below : at.0 < q = behind q g at.0 b at.1 (same g ∙ ap is_lt e) in
        let above : p ≤ at.0 = at_or_behind p f at.0 a (same f ∙ ap is_lt (tied_itself names_total f)) in
        omega arith

    -- The places of one name are the same.
    no_lower : (p q f g : ℕ) → IsPlace parts order p f → IsPlace parts order q g → name_cmp parts f g ≡ Equal → q ≤ p
    no_lower p q f g a b e =
        ⊎_elim
        (λ (h : p < q).
        let within = b.within in
        absurd (true≢false
        (sym (b.point.0 p 0 (omega arith) h)
        ∙ sym (ap is_lt (alike_right names_total f g (get_or order p 0) e))
        ∙ a.point.1 p 0 (omega arith) (omega arith))))
        (λ (h : q ≤ p). h)
        (either p q)

    turned : (f g : ℕ) (o : Ordering) → name_cmp parts f g ≡ o → name_cmp parts g f ≡ ordering_reverse o
    turned f g o e = names_total.antisymm g f ∙ ap ordering_reverse e

    pub places-ordered : (p q f g : ℕ) → IsPlace parts order p f → IsPlace parts order q g → nat_cmp p q ≡ name_cmp parts f g
    places-ordered p q f g a b = by (name_cmp parts f g) refl
      where
        by : (o : Ordering) → name_cmp parts f g ≡ o → nat_cmp p q ≡ name_cmp parts f g
        by Less e = sym (nat_cmp_is p q Less (lower p q f g a b e)) ∙ sym e
        by Equal e =
            let first : q ≤ p = no_lower p q f g a b e in
            let second : p ≤ q = no_lower q p g f b a (turned f g Equal e) in
            sym (nat_cmp_is p q Equal (omega arith)) ∙ sym e
        by Greater e = sym (nat_cmp_is p q Greater (lower q p g f b a (turned f g Greater e))) ∙ sym e

    none-below : (name : List ℕ) → is_lt (slice_cmp nat_cmp name []) ≡ false
    none-below [] = refl
    none-below (x ∷ xs) = refl

    -- A function that isn't there has the place 0.
    first-place : (f : ℕ) → length parts.functions ≤ f → IsPlace parts order 0 f
    first-place f past = record {
      within = omega arith;
      point = (
        λ k d from below. absurd (omega arith),
        λ k d from below.
            ap (λ (name : List ℕ). is_lt (slice_cmp nat_cmp (function_of parts (get_or order k d)).name name)) (nameless f past)
            ∙ none-below (function_of parts (get_or order k d)).name,
      );
    }

    -- Places make ranks.
    pub are_ranks : (ranks : Ranks) → length ranks.places.items ≡ length parts.functions
        → ((f : ℕ) → f < length parts.functions → IsPlace parts order (get_or ranks.places.items f 0) f) → AreRanks parts ranks
    are_ranks ranks long each = record { ordered = λ f g. places-ordered (rank_of ranks f) (rank_of ranks g) f g (placed f) (placed g) }
      where
        placed : (f : ℕ) → IsPlace parts order (rank_of ranks f) f
        placed f = ⊎_elim
            (λ (has : f < length parts.functions). each f has)
            (λ (past : length parts.functions ≤ f). subst (λ (p : ℕ). IsPlace parts order p f) (sym (get_or_past ranks.places.items f 0 (omega arith))) (first-place f past))
            (either f (length parts.functions))

-- The order by ranks is total, and that of frames.
pub ranked_total : (ranks : Ranks) → IsTotalOrder (ranked_cmp ranks)
ranked_total ranks = then_total (on_total (λ (frame : Frame). rank_of ranks frame.function) nat_cmp_total) (on_total (λ (frame : Frame). frame.line) nat_cmp_total)

pub ranked-is : (parts : Parts) (ranks : Ranks) → AreRanks parts ranks → ranked_cmp ranks ≡ frame_cmp parts
ranked-is parts ranks are = λ i a b. ordering_then (are.ordered a.function b.function i) (nat_cmp a.line b.line)
