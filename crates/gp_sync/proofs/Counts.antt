-- Counting places in lines.
use Rattle.std.proofs.Common.{◌≡◌, ◌≢◌, ◌⊎◌, ℕ, zero, suc, ◌+◌, ◌-◌, ◌<◌, ◌≤◌, cond, ◌==◌, List, [], ◌∷◌, ◌++◌, length, get_or, set, sum_by, refl, inl, inr, arith, eq-eqb}
use Rattle.std.proofs.lemmas.List.Sums.{sum_by-cons, sum_by-set, sum_by_push, get_or-le-sum_by}
use Rattle.std.proofs.lemmas.List.{get_or-set_other, length-set}
use Rattle.std.proofs.lemmas.Bool.{cases_eq, cases_lt}
use Rattle.gp_sync.specs.declared.effect.Waiter.{Waiter}
use Rattle.gp_sync.specs.Places.{in_line}

-- a place of one goroutine, counted for another
abbrev pub place : ℕ → ℕ → ℕ
place g k = cond (g == k) 1 0

pub in_line-cons : (k : ℕ) (w : Waiter) (rest : List Waiter) → in_line k (w ∷ rest) ≡ place w.g k + in_line k rest
in_line-cons k w rest = sum_by-cons (λ (v : Waiter). cond (v.g == k) 1 0) w rest

pub in_line_push : (k : ℕ) (line : List Waiter) (w : Waiter) → in_line k (line ++ w ∷ []) ≡ in_line k line + place w.g k
in_line_push k line w = sum_by_push (λ (v : Waiter). cond (v.g == k) 1 0) line w

pub one_at : (g k : ℕ) → g ≡ k → place g k ≡ 1
one_at g k e = rw (eq-eqb g k e) refl

pub none_at : (g k : ℕ) → g ≢ k → place g k ≡ 0
none_at g k e = grind (arith)

-- two lines have no more places than all lines
pub two_places : (k : ℕ) (lines : List (List Waiter)) (i j : ℕ) → i < length lines → j < length lines → j ≢ i → in_line k (get_or lines i []) + in_line k (get_or lines j []) ≤ sum_by (in_line k) lines
two_places k lines i j within within' other =
    let taken = sum_by-set (in_line k) lines i [] [] within in
    let lt : j < length (set lines i []) = omega (arith, length-set lines i []) in
    let rest = get_or-le-sum_by (in_line k) (set lines i []) j [] lt in
    let same = get_or-set_other lines i j [] [] other in
    let rest' : in_line k (get_or lines j []) ≤ sum_by (in_line k) (set lines i []) = rw same at rest in
    omega (arith, taken, rest')

-- how many places the goroutines below a number have in a line
abbrev places_below : ℕ → List Waiter → ℕ
places_below zero line = 0
places_below (suc n) line = in_line n line + places_below n line

below_none : (n : ℕ) → places_below n [] ≡ 0
below_none zero = refl
below_none (suc n) = omega (arith, below_none n)

below_past : (n : ℕ) (w : Waiter) (rest : List Waiter) → n ≤ w.g → places_below n (w ∷ rest) ≡ places_below n rest
below_past zero w rest past = refl
below_past (suc n) w rest past =
    let none = none_at w.g n (omega arith) in
    omega (arith, in_line-cons n w rest, none, below_past n w rest (omega arith))

below_at : (n : ℕ) (w : Waiter) (rest : List Waiter) → w.g < n → (w.g ≡ n - 1) ⊎ (w.g ≢ n - 1) → places_below n (w ∷ rest) ≡ 1 + places_below n rest
below_at zero w rest within same = absurd (omega arith)
below_at (suc n) w rest within (inl same) =
    let one = one_at w.g n (omega arith) in
    omega (arith, in_line-cons n w rest, one, below_past n w rest (omega arith))
below_at (suc n) w rest within (inr other) =
    let none = none_at w.g n (omega arith) in
    omega (arith, in_line-cons n w rest, none, below_at n w rest (omega arith) (cases_eq w.g (n - 1)))

rest_none : (n : ℕ) (w : Waiter) (rest : List Waiter) → ((k : ℕ) → n ≤ k → in_line k (w ∷ rest) ≡ 0) → (k : ℕ) → n ≤ k → in_line k rest ≡ 0
rest_none n w rest none k past = omega (arith, in_line-cons k w rest, none k past)

head_below : (n : ℕ) (w : Waiter) (rest : List Waiter) → ((k : ℕ) → n ≤ k → in_line k (w ∷ rest) ≡ 0) → (w.g < n) ⊎ (n ≤ w.g) → w.g < n
head_below n w rest none (inl within) = within
head_below n w rest none (inr past) =
    absurd (omega (arith, in_line-cons w.g w rest, one_at w.g w.g refl, none w.g past))

length_below : (n : ℕ) (line : List Waiter) → ((k : ℕ) → n ≤ k → in_line k line ≡ 0) → length line ≤ places_below n line
length_below n [] none = omega arith
length_below n (w ∷ rest) none =
    let within = head_below n w rest none (cases_lt w.g n) in
    omega (arith, below_at n w rest within (cases_eq w.g (n - 1)), length_below n rest (rest_none n w rest none))

few_below : (n : ℕ) (line : List Waiter) → ((k : ℕ) → in_line k line ≤ 1) → places_below n line ≤ n
few_below zero line once = omega arith
few_below (suc n) line once = omega (arith, once n, few_below n line once)

-- a line of different goroutines is no longer than there are numbers
pub length-of_different : (n : ℕ) (line : List Waiter) → ((k : ℕ) → in_line k line ≤ 1) → ((k : ℕ) → n ≤ k → in_line k line ≡ 0) → length line ≤ n
length-of_different n line once none = omega (arith, length_below n line none, few_below n line once)
