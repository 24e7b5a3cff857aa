-- A function of places after one place of its list is changed, and what tests of a list tell with one element more.
use Rattle.std.proofs.Common.{◌≡◌, ℕ, ◌<◌, Bool, true, false, ◌||◌, List, [], ◌∷◌, ◌++◌, length, get_or, set, refl, ap, ◌∙◌, get_or-set_same, get_or-set_other}
use Rattle.std.specs.List.{list_any, AllByRecursion}

-- f has y at i now, and is as it was elsewhere
pub record ChangesAt {X : Type 0} (f h : ℕ → X) (i : ℕ) (y : X) : Type 0 where
  pub here : h i ≡ y
  pub others : (k : ℕ) → (k ≡ i → ⊥) → h k ≡ f k

pub set_changes : {X : Type 0} (d : X) (xs : List X) (i : ℕ) (y : X) → i < length xs → ChangesAt (λ k. get_or xs k d) (λ k. get_or (set xs i y) k d) i y
set_changes d xs i y within = record { here = get_or-set_same xs i y d within; others = λ k other. get_or-set_other xs i k y d other }

-- one element more that doesn't pass a test, and one that does
pub any_more : {X : Type 0} (p : X → Bool) (xs : List X) (x : X) → p x ≡ false → list_any p (xs ++ x ∷ []) ≡ list_any p xs
any_more p [] x e = ap (λ b. b || false) e
any_more p (y ∷ ys) x e = ap (λ b. p y || b) (any_more p ys x e)

or_true : (b : Bool) → (b || true) ≡ true
or_true true = refl
or_true false = refl

pub any_now : {X : Type 0} (p : X → Bool) (xs : List X) (x : X) → p x ≡ true → list_any p (xs ++ x ∷ []) ≡ true
any_now p [] x e = ap (λ b. b || false) e
any_now p (y ∷ ys) x e = ap (λ b. p y || b) (any_now p ys x e) ∙ or_true (p y)

pub all_mapped : {X : Type 0} (P Q : X → Type 0) (xs : List X) → ((x : X) → P x → Q x) → AllByRecursion P xs → AllByRecursion Q xs
all_mapped P Q [] f all = tt
all_mapped P Q (x ∷ xs) f all = (f x all.0, all_mapped P Q xs f all.1)

pub all_pushed : {X : Type 0} (P : X → Type 0) (xs : List X) (x : X) → AllByRecursion P xs → P x → AllByRecursion P (xs ++ x ∷ [])
all_pushed P [] x all new = (new, tt)
all_pushed P (y ∷ ys) x all new = (all.0, all_pushed P ys x all.1 new)
