-- What holds at each place of a list holds after one place is changed, or one is added.
use Rattle.std.proofs.Common.{◌≡◌, ◌⊎◌, ℕ, ◌+◌, ◌<◌, ◌≤◌, Bool, true, false, cond, List, [], ◌∷◌, ◌++◌, length, get_or, set, count_by, sum_by, refl, sym, subst, inl, inr, arith, get_or-set_same, get_or-set_other, zero, suc}
use Rattle.std.proofs.lemmas.List.{set_past, get_or_past, get_or_push, get_or_append_left, length_push}
use Rattle.std.proofs.lemmas.Bool.{cases_eq, cases_lt}
use Rattle.std.proofs.lemmas.List.Sums.{sum_by-cons, sum_by-set}

at_place : {X : Type 0} (P : ℕ → X → Type 0) (d : X) (xs : List X) (i : ℕ) (y : X) (k : ℕ) → (k ≡ i) ⊎ (k ≡ i → ⊥) → (i < length xs) ⊎ (length xs ≤ i) → P i y → P k (get_or xs k d) → P k (get_or (set xs i y) k d)
at_place P d xs i y k (inr other) within new old = rw (get_or-set_other xs i k y d other) old
at_place P d xs i y k (inl same) (inl within) new old =
    subst (λ n. P n (get_or (set xs i y) n d)) (sym same) (rw (get_or-set_same xs i y d within) new)
at_place P d xs i y k (inl same) (inr past) new old = rw (set_past xs i y past) old

pub changed : {X : Type 0} (P : ℕ → X → Type 0) (d : X) (xs : List X) (i : ℕ) (y : X) → P i y → ((k : ℕ) → P k (get_or xs k d)) → (k : ℕ) → P k (get_or (set xs i y) k d)
changed P d xs i y new old k = at_place P d xs i y k (cases_eq k i) (cases_lt i (length xs)) new (old k)

pushed_at : {X : Type 0} (P : ℕ → X → Type 0) (d : X) (xs : List X) (y : X) (k : ℕ) → (k < length xs) ⊎ (length xs ≤ k) → (k ≡ length xs) ⊎ (k ≡ length xs → ⊥) → P (length xs) y → P k (get_or xs k d) → P k (get_or (xs ++ y ∷ []) k d)
pushed_at P d xs y k (inl within) end new old = rw (get_or_append_left xs (y ∷ []) d k within) old
pushed_at P d xs y k (inr past) (inl same) new old =
    subst (λ n. P n (get_or (xs ++ y ∷ []) n d)) (sym same) (rw (get_or_push xs y d (length xs) refl) new)
pushed_at P d xs y k (inr past) (inr other) new old =
    let beyond : length (xs ++ y ∷ []) ≤ k = omega (arith, length_push xs y) in
    rw (get_or_past (xs ++ y ∷ []) k d beyond) (rw (get_or_past xs k d past) at old)

pub pushed : {X : Type 0} (P : ℕ → X → Type 0) (d : X) (xs : List X) (y : X) → P (length xs) y → ((k : ℕ) → P k (get_or xs k d)) → (k : ℕ) → P k (get_or (xs ++ y ∷ []) k d)
pushed P d xs y new old k = pushed_at P d xs y k (cases_lt k (length xs)) (cases_eq k (length xs)) new (old k)

-- where none is counted, no place passes the test
counted_none : {X : Type 0} (p : X → Bool) (d : X) (xs : List X) → p d ≡ false → count_by p xs ≡ 0 → (k : ℕ) → p (get_or xs k d) ≡ false
counted_none p d [] past none k = past
counted_none p d (x ∷ xs) past none zero = head (p x) (sum_by-cons (λ y. cond (p y) 1 0) x xs)
  where
    head : (b : Bool) → count_by p (x ∷ xs) ≡ cond b 1 0 + count_by p xs → b ≡ false
    head true e = absurd (omega arith)
    head false e = refl
counted_none p d (x ∷ xs) past none (suc k) =
    let rest : count_by p xs ≡ 0 = omega (arith, sum_by-cons (λ y. cond (p y) 1 0) x xs) in
    counted_none p d xs past rest k

pub none_counted : {X : Type 0} (p : X → Bool) (d : X) (xs : List X) → p d ≡ false → count_by p xs ≡ 0 → (k : ℕ) → p (get_or xs k d) ≡ false
none_counted p d xs past none k = counted_none p d xs past none k

-- a sum after one element is changed
sum_set_at : {X : Type 0} (f : X → ℕ) (d : X) (xs : List X) (i : ℕ) (y : X) → (i < length xs) ⊎ (length xs ≤ i) → f d ≡ 0 → sum_by f (set xs i y) + f (get_or xs i d) ≤ sum_by f xs + f y
sum_set_at f d xs i y (inl within) nothing = omega (arith, sum_by-set f xs i y d within)
sum_set_at f d xs i y (inr past) nothing = rw (set_past xs i y past, get_or_past xs i d past) (omega arith)

pub sum_by-set_le : {X : Type 0} (f : X → ℕ) (d : X) (xs : List X) (i : ℕ) (y : X) → f d ≡ 0 → sum_by f (set xs i y) + f (get_or xs i d) ≤ sum_by f xs + f y
sum_by-set_le f d xs i y nothing = sum_set_at f d xs i y (cases_lt i (length xs)) nothing

other_place : {X : Type 0} (P : ℕ → X → Type 0) (d : X) (xs : List X) (i : ℕ) (y : X) (k : ℕ) → (k ≡ i) ⊎ (k ≡ i → ⊥) → (i < length xs) ⊎ (length xs ≤ i) → P i y → P i d → ((n : ℕ) → (n ≡ i → ⊥) → P n (get_or xs n d)) → P k (get_or (set xs i y) k d)
other_place P d xs i y k (inr other) within new none old = rw (get_or-set_other xs i k y d other) (old k other)
other_place P d xs i y k (inl same) (inl within) new none old =
    subst (λ n. P n (get_or (set xs i y) n d)) (sym same) (rw (get_or-set_same xs i y d within) new)
other_place P d xs i y k (inl same) (inr past) new none old =
    subst (λ n. P n (get_or (set xs i y) n d)) (sym same) (rw (set_past xs i y past, get_or_past xs i d past) none)

-- the same, where nothing is known of the old element
pub replaced : {X : Type 0} (P : ℕ → X → Type 0) (d : X) (xs : List X) (i : ℕ) (y : X) → P i y → P i d → ((n : ℕ) → (n ≡ i → ⊥) → P n (get_or xs n d)) → (k : ℕ) → P k (get_or (set xs i y) k d)
replaced P d xs i y new none old k = other_place P d xs i y k (cases_eq k i) (cases_lt i (length xs)) new none old

pub replaced_within : {X : Type 0} (P : ℕ → X → Type 0) (d : X) (xs : List X) (i : ℕ) (y : X) → i < length xs → P i y → ((n : ℕ) → (n ≡ i → ⊥) → P n (get_or xs n d)) → (k : ℕ) → P k (get_or (set xs i y) k d)
replaced_within P d xs i y within new old k = within_place (cases_eq k i)
  where
    within_place : (k ≡ i) ⊎ (k ≡ i → ⊥) → P k (get_or (set xs i y) k d)
    within_place (inr other) = rw (get_or-set_other xs i k y d other) (old k other)
    within_place (inl same) = subst (λ n. P n (get_or (set xs i y) n d)) (sym same) (rw (get_or-set_same xs i y d within) new)
