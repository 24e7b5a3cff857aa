-- The words after an emission, place by place.
use Rattle.std.proofs.Common.{◌≡◌, ℕ, ◌+◌, ◌-◌, ◌<◌, ◌≤◌, Bool, true, false, List, ◌++◌, length, take, drop, get_or, refl, ap, ◌∙◌, arith, length-append, length-drop, length-take, length-set}
use Rattle.std.specs.Prelude.{nat_lt, if◌then◌else◌, slice_set, ◌≢◌}
use Rattle.std.proofs.lemmas.List.{get_or_append_left, get_or-append_right, get_or-take, get_or-drop, get_or-set_same, get_or-set_other}
use Rattle.std.proofs.lemmas.Bool.Decides.{nat_tests}
use Rattle.gp_ring.specs.kept.Slots.{spliced, marked}

module _ (start : ℕ) (ys xs : List ℕ) (fits : start + length ys ≤ length xs) where
  front : length (take start xs) ≡ start
  front = (let a = length-take start xs in omega arith)

  front_and_middle : length (take start xs ++ ys) ≡ start + length ys
  front_and_middle = length-append (take start xs) ys ∙ ap (λ (k : ℕ). k + length ys) front

  pub length-spliced : length (spliced start ys xs) ≡ length xs
  length-spliced =
      let a = length-append (take start xs ++ ys) (drop (start + length ys) xs) in
      let b = length-drop (start + length ys) xs in
      let c = front_and_middle in
      omega arith

  pub spliced-inside : (i : ℕ) → i < length ys → get_or (spliced start ys xs) (start + i) 0 ≡ get_or ys i 0
  spliced-inside i h =
      let c = front_and_middle in
      let e : (start + i) - start ≡ i = omega arith in
      get_or_append_left (take start xs ++ ys) (drop (start + length ys) xs) 0 (start + i) (omega arith)
      ∙ get_or-append_right (take start xs) ys start (start + i) 0 front (omega arith)
      ∙ ap (λ (k : ℕ). get_or ys k 0) e

  pub spliced-before : (k : ℕ) → k < start → get_or (spliced start ys xs) k 0 ≡ get_or xs k 0
  spliced-before k h =
      let c = front_and_middle in
      let d = front in
      get_or_append_left (take start xs ++ ys) (drop (start + length ys) xs) 0 k (omega arith)
      ∙ get_or_append_left (take start xs) ys 0 k (omega arith)
      ∙ get_or-take start xs k 0 h

  pub spliced-after : (k : ℕ) → start + length ys ≤ k → get_or (spliced start ys xs) k 0 ≡ get_or xs k 0
  spliced-after k h =
      let e : (start + length ys) + (k - (start + length ys)) ≡ k = omega arith in
      get_or-append_right (take start xs ++ ys) (drop (start + length ys) xs) (start + length ys) k 0 front_and_middle h
      ∙ get_or-drop (start + length ys) xs (k - (start + length ys)) 0
      ∙ ap (λ (j : ℕ). get_or xs j 0) e

pub length-marked : (skip at : ℕ) (xs : List ℕ) → length (marked skip at xs) ≡ length xs
length-marked skip at xs = elim (nat_lt 0 skip) as (λ (b : Bool). length (if b then slice_set xs at 0 else xs) ≡ length xs) [ true ↦ length-set xs at 0 | false ↦ refl ]

pub marked-other : (skip at : ℕ) (xs : List ℕ) (k : ℕ) → k ≢ at → get_or (marked skip at xs) k 0 ≡ get_or xs k 0
marked-other skip at xs k h = elim (nat_lt 0 skip) as (λ (b : Bool). get_or (if b then slice_set xs at 0 else xs) k 0 ≡ get_or xs k 0) [ true ↦ get_or-set_other xs at k 0 0 h | false ↦ refl ]

above : (k : ℕ) → 0 < k → nat_lt 0 k ≡ true
above k h = grind (arith, nat_tests)

pub marked-at : (skip at : ℕ) (xs : List ℕ) → 0 < skip → at < length xs → get_or (marked skip at xs) at 0 ≡ 0
marked-at skip at xs h l = ap (λ (b : Bool). get_or (if b then slice_set xs at 0 else xs) at 0) (above skip h) ∙ get_or-set_same xs at 0 0 l
