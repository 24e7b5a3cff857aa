-- How often a goroutine stands in a line.
use Rattle.std.proofs.Common.{◌≡◌, ◌≢◌, ℕ, ◌+◌, ◌<◌, ◌≤◌, Bool, true, false, not, cond, ◌==◌, List, [], ◌∷◌, ◌++◌, length, refl, sym, inl, inr, arith, eq-eqb}
use Rattle.std.proofs.Math.Dec.{eqb}
use Rattle.std.proofs.lemmas.Bool.{ne_eqb, cases_lt, both_ways}
use Rattle.std.proofs.lemmas.Map.Steps.{length-le_from_distinct_below}
use Rattle.std.specs.List.{AllByRecursion, IsDistinct, list_any}
use Rattle.std.proofs.lemmas.List.Sums.{sum_by-cons, sum_by_push, length-filter}
use Rattle.std.proofs.lemmas.List.Filters.{length-filter_both}
use Rattle.gp_journal.specs.Standing.{times, without}

-- a place of one goroutine, counted for another
abbrev pub place : ℕ → ℕ → ℕ
place g k = cond (g == k) 1 0

pub times-cons : (k g : ℕ) (rest : List ℕ) → times k (g ∷ rest) ≡ place g k + times k rest
times-cons k g rest = sum_by-cons (λ (other : ℕ). cond (other == k) 1 0) g rest

pub times_push : (k : ℕ) (items : List ℕ) (g : ℕ) → times k (items ++ g ∷ []) ≡ times k items + place g k
times_push k items g = sum_by_push (λ (other : ℕ). cond (other == k) 1 0) items g

pub one_at : (g : ℕ) → place g g ≡ 1
one_at g = rw (eq-eqb g g refl) refl

pub none_at : (g k : ℕ) → g ≢ k → place g k ≡ 0
none_at g k e = grind (arith)

pub other_than : (g k : ℕ) (rest : List ℕ) → times k (g ∷ rest) ≡ 0 → g ≢ k
other_than g k rest none same =
    let one : times k (k ∷ rest) ≡ 0 = rw same at none in
    omega (arith, times-cons k k rest, one_at k, one)

pub length-without : (g : ℕ) (items : List ℕ) → length (without g items) + times g items ≡ length items
length-without g items =
    omega (arith, length-filter_both (λ (other : ℕ). other == g) (λ (other : ℕ). not (other == g)) (λ x. refl) items, length-filter (λ (other : ℕ). other == g) items)

pub times_without : (k g : ℕ) (items : List ℕ) → times k (without g items) ≤ times k items
times_without k g [] = omega arith
times_without k g (x ∷ rest) =
    let kept : times k (x ∷ without g rest) ≤ times k (x ∷ rest) = omega (arith, times-cons k x (without g rest), times-cons k x rest, times_without k g rest) in
    let gone : times k (without g rest) ≤ times k (x ∷ rest) = omega (arith, times-cons k x rest, times_without k g rest) in
    elim (x == g) as (λ (b : Bool). times k (cond (not b) (x ∷ without g rest) (without g rest)) ≤ times k (x ∷ rest)) [ true ↦ gone | false ↦ kept ]

pub without_absent : (g : ℕ) (items : List ℕ) → times g items ≡ 0 → without g items ≡ items
without_absent g [] none = refl
without_absent g (x ∷ rest) none =
    let other : (x == g) ≡ false = ne_eqb x g (other_than x g rest none) in
    let same = without_absent g rest (omega (arith, times-cons g x rest, none)) in
    rw (other, same) refl

pub without_head : (g : ℕ) (rest : List ℕ) → times g (g ∷ rest) ≡ 1 → without g (g ∷ rest) ≡ rest
without_head g rest once =
    let same : (g == g) ≡ true = eq-eqb g g refl in
    rw (same, without_absent g rest (omega (arith, times-cons g g rest, one_at g, once))) refl

pub without_other : (g x : ℕ) (rest : List ℕ) → x ≢ g → without g (x ∷ rest) ≡ x ∷ without g rest
without_other g x rest different =
    let other : (x == g) ≡ false = ne_eqb x g different in
    rw other refl

apart : (x : ℕ) (rest : List ℕ) → times x rest ≡ 0 → AllByRecursion (λ y. (x == y) ≡ false) rest
apart x [] none = tt
apart x (y ∷ rest) none =
    let different : y ≢ x = other_than y x rest none in
    (ne_eqb x y (λ same. different (sym same)), apart x rest (omega (arith, times-cons x y rest, none)))

distinct : (items : List ℕ) → ((k : ℕ) → times k items ≤ 1) → IsDistinct eqb items
unfolding IsDistinct
distinct [] once = tt
distinct (x ∷ rest) once =
    (apart x rest (omega (arith, once x, times-cons x x rest, one_at x)), distinct rest (λ k. omega (arith, once k, times-cons k x rest)))

found : (q : ℕ) (items : List ℕ) → times q items ≡ 0 → list_any (eqb q) items ≡ false
found q [] none = refl
found q (x ∷ rest) none =
    let different : x ≢ q = other_than x q rest none in
    let here : eqb q x ≡ false = ne_eqb q x (λ same. different (sym same)) in
    rw here (found q rest (omega (arith, times-cons q x rest, none)))

-- a line of different goroutines is no longer than there are numbers
pub length-of_different : (n : ℕ) (items : List ℕ) → ((k : ℕ) → times k items ≤ 1) → ((k : ℕ) → n ≤ k → times k items ≡ 0) → length items ≤ n
length-of_different n items once within =
    length-le_from_distinct_below items n (distinct items once)
    (λ q is_in. elim (cases_lt q n) [ inl lt ↦ lt | inr past ↦ absurd (both_ways (list_any (eqb q) items) (found q items (within q past)) is_in) ])

pub head_below : (g : ℕ) (rest : List ℕ) (n : ℕ) → ((k : ℕ) → n ≤ k → times k (g ∷ rest) ≡ 0) → g < n
head_below g rest n within =
    elim (cases_lt g n) [ inl lt ↦ lt | inr past ↦ absurd (omega (arith, within g past, times-cons g g rest, one_at g)) ]
