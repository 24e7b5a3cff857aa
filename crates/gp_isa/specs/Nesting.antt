-- How many loops stand inside each other.
use Rattle.std.specs.Prelude.{◌+◌, ℕ, zero, suc, max, List, [], ◌∷◌, length}
use Rattle.gp_isa.specs.declared.parts.Parts.{Parts}
use Rattle.gp_isa.specs.declared.statement.Stmt.{Stmt}
use Rattle.gp_isa.specs.declared.statement.What.TheOpen.{Loop}
use Rattle.gp_isa.specs.Statement.{Action, action_of, most_bodies}
use Rattle.gp_isa.specs.Trace.{body_of}

-- the loops of what a statement does, `inner` giving those of a loop's body
abbrev pub loops_of : (List Stmt → ℕ) → Action → ℕ
loops_of inner (Loop n body end) = inner body + 1
loops_of inner _ = 0

-- the most that a number is for a statement
abbrev pub most_of : (Stmt → ℕ) → List Stmt → ℕ
most_of number [] = 0
most_of number (s ∷ body) = max (number s) (most_of number body)

-- the most loops inside each other in a body, where bodies are followed `deep` deep, this one included
abbrev pub loops_in : ℕ → List Stmt → ℕ
loops_in zero body = 0
loops_in (suc deep) body = most_of (λ s. loops_of (loops_in deep) (action_of s)) body

-- the most in the first n functions
unfoldable pub nesting_below : Parts → ℕ → ℕ
nesting_below parts zero = 0
nesting_below parts (suc n) = max (nesting_below parts n) (loops_in most_bodies (body_of parts n))

-- The most loops that stand inside each other in any function.
unfoldable pub nesting_of : Parts → ℕ
nesting_of parts = nesting_below parts (length parts.functions)
