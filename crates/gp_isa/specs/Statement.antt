-- Statements, opened one level. A statement may hold statements, so it is a data type that isn't matched on
-- directly: `action_of` gives what it does as one of the constructors of `Action`.
use Rattle.std.specs.Prelude.{◌+◌, ℕ, List, [], Some, None, slice_get}
use Rattle.gp_isa.specs.declared.statement.Stmt.{Stmt, out-Stmt}
use Rattle.gp_isa.specs.declared.statement.What.{What, out-What}
use Rattle.gp_isa.specs.declared.statement.What.TheOpen.{What-F, Loop}
use Rattle.gp_isa.specs.Limits.{most_loops}

-- what a statement does, its loop's body being a list of statements
abbrev pub Action : Type 0
Action = What-F What Stmt

abbrev pub action : What → Action
action w = out-What w

-- the line on which a statement stands
abbrev pub line_of : Stmt → ℕ
line_of s = (out-Stmt s).line

abbrev pub action_of : Stmt → Action
action_of s = action (out-Stmt s).what

-- How many bodies stand inside each other at most: that of a function, and one for each loop.
abbrev pub most_bodies : ℕ
most_bodies = most_loops + 1

-- the body of a loop, empty of what is no loop
abbrev pub loop_body : Action → List Stmt
loop_body (Loop n body end) = body
loop_body _ = []

-- the body of the loop that is statement `at` of a body, empty where that is no loop
abbrev pub body_inside : List Stmt → ℕ → List Stmt
body_inside body at = elim (slice_get body at) as (λ _. List Stmt) [
  | Some s ↦ loop_body (action_of s)
  | None ↦ []
]
