-- How many loops stand inside each other.
use Rattle.std.proofs.Common.{◌≡◌, ℕ, zero, suc, ◌+◌, ◌<◌, ◌≤◌, ◌⊎◌, max, List, [], ◌∷◌, length, Some, None, ap, ◌∙◌, inl, inr, arith}
use Rattle.std.specs.Prelude.{slice_get}
use Rattle.std.proofs.lemmas.Bool.{cases_lt}
use Rattle.gp_isa.specs.declared.parts.Parts.{Parts}
use Rattle.gp_isa.specs.declared.statement.Stmt.{Stmt}
use Rattle.gp_isa.specs.declared.statement.What.TheOpen.{Loop}
use Rattle.gp_isa.specs.Nesting.{loops_of, loops_in, nesting_below, nesting_of}
use Rattle.gp_isa.specs.Statement.{Action, action_of, most_bodies}
use Rattle.gp_isa.specs.Trace.{body_of}
use Rattle.gp_isa.proofs.Bodies.{body_of-past}

below_least : (parts : Parts) (n most : ℕ) → ((f : ℕ) → f < n → loops_in most_bodies (body_of parts f) ≤ most) → nesting_below parts n ≤ most
unfolding nesting_below
below_least parts zero most few = omega arith
below_least parts (suc n) most few = omega (arith, below_least parts n most (λ f within. few f (omega arith)), few n (omega arith))

-- no more than some functions have
pub nesting_least : (parts : Parts) (most : ℕ) → ((f : ℕ) → f < length parts.functions → loops_in most_bodies (body_of parts f) ≤ most) → nesting_of parts ≤ most
unfolding nesting_of
nesting_least parts most few = below_least parts (length parts.functions) most few

most_below : (parts : Parts) (n f : ℕ) → f < n → loops_in most_bodies (body_of parts f) ≤ nesting_below parts n
unfolding nesting_below
most_below parts zero f within = absurd (omega arith)
most_below parts (suc n) f within = at (cases_lt f n) (most_below parts n f)
  where
    at : (f < n) ⊎ (n ≤ f) → (f < n → loops_in most_bodies (body_of parts f) ≤ nesting_below parts n) → loops_in most_bodies (body_of parts f) ≤ max (nesting_below parts n) (loops_in most_bodies (body_of parts n))
    at (inl less) rest = let h : loops_in most_bodies (body_of parts f) ≤ nesting_below parts n = rest less in omega arith
    at (inr more) rest =
        let same : f ≡ n = omega arith in
        let h : loops_in most_bodies (body_of parts f) ≡ loops_in most_bodies (body_of parts n) = ap (λ g. loops_in most_bodies (body_of parts g)) same in omega arith

-- no function has more
pub nesting_there : (parts : Parts) (f : ℕ) → loops_in most_bodies (body_of parts f) ≤ nesting_of parts
unfolding nesting_of
nesting_there parts f = at (cases_lt f (length parts.functions))
  where
    at : (f < length parts.functions) ⊎ (length parts.functions ≤ f) → loops_in most_bodies (body_of parts f) ≤ nesting_below parts (length parts.functions)
    at (inl within) = most_below parts (length parts.functions) f within
    at (inr past) = let none : loops_in most_bodies (body_of parts f) ≡ 0 = ap (loops_in most_bodies) (body_of-past parts f past) in omega arith

-- a loop's body has one less than the body that it stands in
pub nested : (deep : ℕ) (body : List Stmt) (at : ℕ) (s : Stmt) (n end : ℕ) (inner : List Stmt) → slice_get body at ≡ Some s → action_of s ≡ Loop n inner end → loops_in deep inner + 1 ≤ loops_in (suc deep) body
nested deep [] at s n end inner found does = cc
nested deep (t ∷ body) zero s n end inner found does =
    let same : action_of t ≡ Loop n inner end = ap (λ o. elim o as (λ _. Action) [ Some u ↦ action_of u | None ↦ Loop n inner end ]) found ∙ does in
    let here : loops_of (loops_in deep) (action_of t) ≡ loops_in deep inner + 1 = ap (loops_of (loops_in deep)) same in
    omega arith
nested deep (t ∷ body) (suc at) s n end inner found does = omega (arith, nested deep body at s n end inner found does)
