-- The size of points that are put together from others.
use Rattle.std.proofs.Common.{◌≡◌, ℕ, Bool, true, false, ◌&&◌, zero, suc, ◌+◌, ◌*◌, ◌^◌, ◌-◌, ◌<◌, ◌≤◌, ◌⊎◌, max, min, cond, Option, Some, None, List, [], ◌∷◌, ◌++◌, length, map, replicate, refl, sym, ap, ap₂, ◌∙◌, arith, inl, inr, length-append}
use Rattle.std.proofs.lemmas.Bool.{and_parts, cases_lt}
use Rattle.std.proofs.lemmas.List.{length-map, length-replicate}
use Rattle.std.proofs.lemmas.Nat.{mul-le}
use Rattle.gp_isa.specs.declared.size.Size.{Size}
use Rattle.gp_isa.specs.Limits.{most_points}
use Rattle.gp_isa.specs.declared.size.Shared.{Shared}
use Rattle.gp_isa.specs.Trace.{Instruction, Point, Local, Labels, Send, Recv, Lock, Unlock, Spawn, is_local, point_at, called_at, repeated}
use Rattle.gp_isa.specs.Size.{most_frames, is_work, all_pass, shared_of, local_before, first_shared}
use Rattle.gp_isa.specs.kept.Sizes.{size_of}

abbrev sized : ℕ → ℕ → Bool → Bool → ℕ → Option Shared → Size
sized points frames local work before first = record { points = points; frames = frames; local = local; work = work; before = before; first = first }

same_size : (n m n' m' : ℕ) (l w l' w' : Bool) (b b' : ℕ) (s s' : Option Shared) → n ≡ n' → m ≡ m' → l ≡ l' → w ≡ w' → b ≡ b' → s ≡ s' → sized n m l w b s ≡ sized n' m' l' w' b' s'
same_size n m n' m' l w l' w' b b' s s' points frames local work before first = cc

-- what all points pass
module _ (test : Instruction → Bool) where
  and_assoc : (a b c : Bool) → (a && (b && c)) ≡ ((a && b) && c)
  and_assoc true b c = refl
  and_assoc false b c = refl

  and_twice : (a : Bool) → (a && a) ≡ a
  and_twice true = refl
  and_twice false = refl

  and_true : (a : Bool) → (a && true) ≡ a
  and_true true = refl
  and_true false = refl

  pub all_pass-append : (points more : List Point) → all_pass test (points ++ more) ≡ (all_pass test points && all_pass test more)
  all_pass-append [] more = refl
  all_pass-append (p ∷ points) more =
      ap (λ b. test p.instruction && b) (all_pass-append points more) ∙ and_assoc (test p.instruction) (all_pass test points) (all_pass test more)

  pub all_pass-called : (f line : ℕ) (points : List Point) → all_pass test (map (called_at f line) points) ≡ all_pass test points
  all_pass-called f line [] = refl
  all_pass-called f line (p ∷ points) = ap (λ b. test p.instruction && b) (all_pass-called f line points)

  pub all_pass-repeated : (n : ℕ) (points : List Point) → all_pass test (repeated (suc n) points) ≡ all_pass test points
  all_pass-repeated zero points = all_pass-append points [] ∙ and_true (all_pass test points)
  all_pass-repeated (suc n) points =
      all_pass-append points (repeated (suc n) points) ∙ ap (λ b. all_pass test points && b) (all_pass-repeated n points) ∙ and_twice (all_pass test points)

  pub all_pass-work : (n f line : ℕ) → test Local ≡ true → all_pass test (replicate n (point_at f line Local)) ≡ true
  all_pass-work zero f line passes = refl
  all_pass-work (suc n) f line passes = ap (λ b. b && all_pass test (replicate n (point_at f line Local))) passes ∙ all_pass-work n f line passes

abbrev capped : ℕ → ℕ
capped n = min n (most_points + 1)

-- behind points that all are local those that come next begin
more_before : (b : Bool) (n m k r : ℕ) → r ≡ cond b (n + m) k → r + 1 ≡ cond b (suc n + m) (k + 1)
more_before true n m k r is = omega arith
more_before false n m k r is = omega arith

before_one : (l b : Bool) (n m k r : ℕ) → r ≡ cond b (n + m) k → cond l (r + 1) 0 ≡ cond (l && b) (suc n + m) (cond l (k + 1) 0)
before_one true b n m k r is = more_before b n m k r is
before_one false b n m k r is = refl

pub before-append : (points more : List Point) → local_before (points ++ more) ≡ cond (all_pass is_local points) (length points + local_before more) (local_before points)
before-append [] more = omega arith
before-append (p ∷ points) more =
    before_one (is_local p.instruction) (all_pass is_local points) (length points) (local_before more) (local_before points) (local_before (points ++ more)) (before-append points more)

first_one : (l b : Bool) (r m k s : Option Shared) → r ≡ cond b m k → cond l r s ≡ cond (l && b) m (cond l k s)
first_one true b r m k s is = is
first_one false b r m k s is = refl

pub first-append : (points more : List Point) → first_shared (points ++ more) ≡ cond (all_pass is_local points) (first_shared more) (first_shared points)
first-append [] more = refl
first-append (p ∷ points) more =
    first_one (is_local p.instruction) (all_pass is_local points) (first_shared (points ++ more)) (first_shared more) (first_shared points) (shared_of p.instruction) (first-append points more)

-- where all are local, all come before
before_all : (points : List Point) → all_pass is_local points ≡ true → local_before points ≡ length points
before_all [] all = refl
before_all (p ∷ points) all =
    let both : (is_local p.instruction ≡ true) × (all_pass is_local points ≡ true) = and_parts (is_local p.instruction) (all_pass is_local points) all in
    ap (λ l. cond l (local_before points + 1) 0) both.0 ∙ omega (arith, before_all points both.1)

first_all : (points : List Point) → all_pass is_local points ≡ true → first_shared points ≡ None
first_all [] all = refl
first_all (p ∷ points) all =
    let both : (is_local p.instruction ≡ true) × (all_pass is_local points ≡ true) = and_parts (is_local p.instruction) (all_pass is_local points) all in
    ap (λ l. cond l (first_shared points) (shared_of p.instruction)) both.0 ∙ first_all points both.1

le_one : (b : Bool) (n m : ℕ) → n ≤ m → cond b (n + 1) 0 ≤ suc m
le_one true n m less = omega arith
le_one false n m less = omega arith

pub before_le : (points : List Point) → local_before points ≤ length points
before_le [] = omega arith
before_le (p ∷ points) = le_one (is_local p.instruction) (local_before points) (length points) (before_le points)

before-called : (f line : ℕ) (points : List Point) → local_before (map (called_at f line) points) ≡ local_before points
before-called f line [] = refl
before-called f line (p ∷ points) = ap (λ n. cond (is_local p.instruction) (n + 1) 0) (before-called f line points)

first-called : (f line : ℕ) (points : List Point) → first_shared (map (called_at f line) points) ≡ first_shared points
first-called f line [] = refl
first-called f line (p ∷ points) = ap (λ s. cond (is_local p.instruction) s (shared_of p.instruction)) (first-called f line points)

-- of points many times over
before_times : (b : Bool) (n : ℕ) (points : List Point) → all_pass is_local points ≡ b → local_before (repeated (suc n) points) ≡ cond b (length (repeated (suc n) points)) (local_before points)
before_times true n points all = before_all (repeated (suc n) points) (all_pass-repeated is_local n points ∙ all)
before_times false n points all =
    before-append points (repeated n points) ∙ ap (λ b. cond b (length points + local_before (repeated n points)) (local_before points)) all

first_times : (b : Bool) (n : ℕ) (points : List Point) → all_pass is_local points ≡ b → first_shared (repeated (suc n) points) ≡ first_shared points
first_times true n points all = first_all (repeated (suc n) points) (all_pass-repeated is_local n points ∙ all) ∙ sym (first_all points all)
first_times false n points all = first-append points (repeated n points) ∙ ap (λ b. cond b (first_shared (repeated n points)) (first_shared points)) all

pub most_frames-append : (points more : List Point) → most_frames (points ++ more) ≡ max (most_frames points) (most_frames more)
most_frames-append [] more = omega arith
most_frames-append (p ∷ points) more = omega (arith, most_frames-append points more)

capped_before : (b : Bool) (n m k : ℕ) → cond b (min (min (capped n + capped m) (2 ^ 64 - 1)) (most_points + 1)) (capped k) ≡ capped (cond b (n + m) k)
capped_before true n m k = omega arith
capped_before false n m k = refl

pub size_of-append : (points more : List Point) (a b : Size) → a ≡ size_of points → b ≡ size_of more → (n m : ℕ) (l w : Bool) →
    n ≡ min (min (a.points + b.points) (2 ^ 64 - 1)) (most_points + 1) → m ≡ max a.frames b.frames → l ≡ (a.local && b.local) → w ≡ (a.work && b.work) →
    (before : ℕ) (first : Option Shared) → before ≡ cond a.local (min (min (a.points + b.before) (2 ^ 64 - 1)) (most_points + 1)) a.before → first ≡ cond a.local b.first a.first →
    sized n m l w before first ≡ size_of (points ++ more)
size_of-append points more a b here next n m l w en em el ew before first eb ef =
    same_size _ _ _ _ _ _ _ _ _ _ _ _
    (omega (arith, en, ap (λ (s : Size). s.points) here, ap (λ (s : Size). s.points) next, length-append points more))
    (em ∙ ap₂ max (ap (λ (s : Size). s.frames) here) (ap (λ (s : Size). s.frames) next) ∙ sym (most_frames-append points more))
    (el ∙ ap₂ (λ a b. a && b) (ap (λ (s : Size). s.local) here) (ap (λ (s : Size). s.local) next) ∙ sym (all_pass-append is_local points more))
    (ew ∙ ap₂ (λ a b. a && b) (ap (λ (s : Size). s.work) here) (ap (λ (s : Size). s.work) next) ∙ sym (all_pass-append is_work points more))
    (eb ∙ ap₂ (λ (x : Size) (y : Size). cond x.local (min (min (x.points + y.before) (2 ^ 64 - 1)) (most_points + 1)) x.before) here next ∙
    capped_before (all_pass is_local points) (length points) (local_before more) (local_before points) ∙ ap capped (sym (before-append points more)))
    (ef ∙ ap₂ (λ (x : Size) (y : Size). cond x.local y.first x.first) here next ∙ sym (first-append points more))

called_frames : (f line : ℕ) (point : Point) → length (called_at f line point).stack ≡ length point.stack + 1
called_frames f line point = length-append point.stack _

-- a call puts one frame on each stack
pub most_frames-called : (f line : ℕ) (p : Point) (points : List Point) →
    most_frames (map (called_at f line) (p ∷ points)) ≡ most_frames (p ∷ points) + 1
most_frames-called f line p [] = omega (arith, called_frames f line p)
most_frames-called f line p (q ∷ points) = omega (arith, called_frames f line p, most_frames-called f line q points)

pub size_of-called : (f line : ℕ) (points : List Point) (a : Size) → a ≡ size_of points → (a.points ≡ 0 → ⊥) →
    sized a.points (a.frames + 1) a.local a.work a.before a.first ≡ size_of (map (called_at f line) points)
size_of-called f line [] a here some = absurd (some (ap (λ (s : Size). s.points) here))
size_of-called f line (p ∷ points) a here some =
    same_size _ _ _ _ _ _ _ _ _ _ _ _
    (ap (λ (s : Size). s.points) here ∙ ap capped (sym (length-map (p ∷ points) (called_at f line))))
    (ap (λ (s : Size). s.frames + 1) here ∙ sym (most_frames-called f line p points))
    (ap (λ (s : Size). s.local) here ∙ sym (all_pass-called is_local f line (p ∷ points)))
    (ap (λ (s : Size). s.work) here ∙ sym (all_pass-called is_work f line (p ∷ points)))
    (ap (λ (s : Size). s.before) here ∙ ap capped (sym (before-called f line (p ∷ points))))
    (ap (λ (s : Size). s.first) here ∙ sym (first-called f line (p ∷ points)))

pub size_of-called_none : (f line : ℕ) (points : List Point) (a : Size) → a ≡ size_of points → a.points ≡ 0 →
    sized a.points 0 a.local a.work a.before a.first ≡ size_of (map (called_at f line) points)
size_of-called_none f line [] a here none =
    same_size _ _ _ _ _ _ _ _ _ _ _ _ none refl (ap (λ (s : Size). s.local) here) (ap (λ (s : Size). s.work) here) (ap (λ (s : Size). s.before) here) (ap (λ (s : Size). s.first) here)
size_of-called_none f line (p ∷ points) a here none = absurd (omega (arith, ap (λ (s : Size). s.points) here))

length-repeated : (n : ℕ) (points : List Point) → length (repeated n points) ≡ n * length points
length-repeated zero points = omega arith
length-repeated (suc n) points = omega (arith, length-append points (repeated n points), length-repeated n points)

pub most_frames-repeated : (n : ℕ) (points : List Point) → most_frames (repeated (suc n) points) ≡ most_frames points
most_frames-repeated zero points = most_frames-append points [] ∙ omega arith
most_frames-repeated (suc n) points = most_frames-append points (repeated (suc n) points) ∙ omega (arith, most_frames-repeated n points)

-- a product with a number that was cut off is cut off alike
capped_product : (n len : ℕ) → min (min (capped len * n) (2 ^ 64 - 1)) (most_points + 1) ≡ capped (n * len)
capped_product n len = at n (cases_lt (most_points + 1) len)
  where
    at : (n : ℕ) → (most_points + 1 < len) ⊎ (len ≤ most_points + 1) → min (min (capped len * n) (2 ^ 64 - 1)) (most_points + 1) ≡ capped (n * len)
    at n (inr few) = let whole : capped len ≡ len = omega arith in ap (λ m. min (min (m * n) (2 ^ 64 - 1)) (most_points + 1)) whole ∙ omega arith
    at zero (inl many) = omega arith
    at (suc n) (inl many) =
        let whole : capped len ≡ most_points + 1 = omega arith in
        ap (λ m. min (min (m * suc n) (2 ^ 64 - 1)) (most_points + 1)) whole ∙ omega (arith, mul-le n (most_points + 1) n len (omega arith) (omega arith))

capped_times : (b : Bool) (n k : ℕ) → cond b (capped n) (capped k) ≡ capped (cond b n k)
capped_times true n k = refl
capped_times false n k = refl

pub size_of-repeated : (n : ℕ) (points : List Point) (a : Size) → a ≡ size_of points → (m : ℕ) →
    m ≡ min (min (a.points * n) (2 ^ 64 - 1)) (most_points + 1) → (n ≡ 0 → ⊥) → (before : ℕ) → before ≡ cond a.local m a.before →
    sized m a.frames a.local a.work before a.first ≡ size_of (repeated n points)
size_of-repeated zero points a here m em some before eb = absurd (some refl)
size_of-repeated (suc n) points a here m em some before eb =
    let many : m ≡ capped (length (repeated (suc n) points)) =
    em ∙ ap (λ (s : Size). min (min (s.points * suc n) (2 ^ 64 - 1)) (most_points + 1)) here ∙ capped_product (suc n) (length points) ∙ ap capped (sym (length-repeated (suc n) points)) in
    same_size _ _ _ _ _ _ _ _ _ _ _ _
    many
    (ap (λ (s : Size). s.frames) here ∙ sym (most_frames-repeated n points))
    (ap (λ (s : Size). s.local) here ∙ sym (all_pass-repeated is_local n points))
    (ap (λ (s : Size). s.work) here ∙ sym (all_pass-repeated is_work n points))
    (eb ∙ ap₂ (λ k (x : Size). cond x.local k x.before) many here ∙ capped_times (all_pass is_local points) (length (repeated (suc n) points)) (local_before points) ∙
    ap capped (sym (before_times (all_pass is_local points) n points refl)))
    (ap (λ (s : Size). s.first) here ∙ sym (first_times (all_pass is_local points) n points refl))

pub size_of-repeated_none : (points : List Point) (n : ℕ) → n ≡ 0 → size_of [] ≡ size_of (repeated n points)
size_of-repeated_none points zero none = refl
size_of-repeated_none points (suc n) none = absurd (omega arith)

pub most_frames-work : (n f line : ℕ) → most_frames (replicate (suc n) (point_at f line Local)) ≡ 1
most_frames-work zero f line = refl
most_frames-work (suc n) f line = omega (arith, most_frames-work n f line)

pub size_of-work : (n f line : ℕ) → n < 2 ^ 32 → (n ≡ 0 → ⊥) → sized n 1 true true n None ≡ size_of (replicate n (point_at f line Local))
size_of-work zero f line fits some = absurd (some refl)
size_of-work (suc n) f line fits some =
    same_size _ _ _ _ _ _ _ _ _ _ _ _
    (omega (arith, length-replicate (suc n) (point_at f line Local)))
    (sym (most_frames-work n f line))
    (sym (all_pass-work is_local (suc n) f line refl))
    (sym (all_pass-work is_work (suc n) f line refl))
    (omega (arith, before_all (replicate (suc n) (point_at f line Local)) (all_pass-work is_local (suc n) f line refl), length-replicate (suc n) (point_at f line Local)))
    (sym (first_all (replicate (suc n) (point_at f line Local)) (all_pass-work is_local (suc n) f line refl)))

-- a shared point
pub size_of-point : (f line : ℕ) (i : Instruction) (s : Shared) → shared_of i ≡ Some s → sized 1 1 false false 0 (Some s) ≡ size_of (point_at f line i ∷ [])
size_of-point f line Local s is = cc
size_of-point f line (Labels set) s is = cc
size_of-point f line (Send c) s is = ap (sized 1 1 false false 0) (sym is)
size_of-point f line (Recv c) s is = ap (sized 1 1 false false 0) (sym is)
size_of-point f line (Lock m) s is = ap (sized 1 1 false false 0) (sym is)
size_of-point f line (Unlock m) s is = ap (sized 1 1 false false 0) (sym is)
size_of-point f line (Spawn h) s is = ap (sized 1 1 false false 0) (sym is)
