-- What the numbers of goroutines say of a run, and when requests are left.
use Rattle.std.proofs.Common.{◌≡◌, ◌<◌, ◌≤◌, ◌+◌, ℕ, Bool, true, false, ◌||◌, ltb, cond, List, [], ◌∷◌, length, drop, count_by, refl, sym, ap, ◌∙◌, arith, length-drop}
use Rattle.std.specs.List.{list_any}
use Rattle.std.proofs.lemmas.Bool.{lt-ltb, le-ltb}
use Rattle.std.proofs.lemmas.List.Sums.{sum_by-cons}
use Rattle.gp_journal.specs.declared.settings.Request.{Request}
use Rattle.gp_journal.specs.State.{State, is_runnable, is_running}
use Rattle.gp_journal.specs.Due.{some_ready}

one_more : (b any : Bool) (n : ℕ) → any ≡ ltb 0 n → (b || any) ≡ ltb 0 (cond b 1 0 + n)
one_more true any n e = sym (lt-ltb 0 (1 + n) (omega arith))
one_more false any n e = e ∙ ap (ltb 0) (omega arith)

-- some pass a test where their number isn't 0
pub any_counted : {X : Type 0} (p : X → Bool) (xs : List X) → list_any p xs ≡ ltb 0 (count_by p xs)
any_counted p [] = refl
any_counted p (x ∷ xs) = one_more (p x) (list_any p xs) (count_by p xs) (any_counted p xs) ∙ ap (ltb 0) (sym (sum_by-cons (λ y. cond (p y) 1 0) x xs))

pub any_none : {X : Type 0} (p : X → Bool) (xs : List X) → count_by p xs ≤ 0 → list_any p xs ≡ false
any_none p xs none = any_counted p xs ∙ le-ltb 0 (count_by p xs) none

regrouped : (a b c d : Bool) → ((a || b) || (c || d)) ≡ ((a || c) || (b || d))
regrouped true b c d = refl
regrouped false true true d = refl
regrouped false true false d = refl
regrouped false false true d = refl
regrouped false false false d = refl

any_of_two : {X : Type 0} (p q : X → Bool) (xs : List X) → list_any (λ x. p x || q x) xs ≡ (list_any p xs || list_any q xs)
any_of_two p q [] = refl
any_of_two p q (x ∷ xs) = ap (λ b. (p x || q x) || b) (any_of_two p q xs) ∙ regrouped (p x) (q x) (list_any p xs) (list_any q xs)

either : (b c d : Bool) (n m : ℕ) → b ≡ ltb 0 n → c ≡ ltb 0 m → d ≡ (b || c) → d ≡ (ltb 0 n || ltb 0 m)
either b c d n m e f g = g ∙ ap (λ x. x || c) e ∙ ap (λ x. ltb 0 n || x) f

-- some goroutine is ready where one is runnable or one runs
pub ready_counted : (s : State) → some_ready s ≡ (ltb 0 (count_by (λ g. is_runnable g.status) s.goroutines) || ltb 0 (count_by (λ g. is_running g.status) s.goroutines))
ready_counted s = either _ _ _ _ _ (any_counted (λ g. is_runnable g.status) s.goroutines) (any_counted (λ g. is_running g.status) s.goroutines) (any_of_two (λ g. is_runnable g.status) (λ g. is_running g.status) s.goroutines)

-- requests are left where not all are served
pub some_left : (at : List Request) (served : ℕ) → served < length at → drop served at ≡ [] → ⊥
some_left at served more none = absurd (omega (arith, length-drop served at, ap length none))
