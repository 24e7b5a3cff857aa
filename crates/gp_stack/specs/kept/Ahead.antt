-- What stands at a place of a body of statements.
use Rattle.std.specs.Prelude.{◌≡◌, ◌+◌, ◌^◌, ◌<◌, ◌≤◌, ℕ, List, Some, length, slice_get}
use Rattle.gp_isa.specs.declared.statement.Stmt.{Stmt}
use Rattle.gp_isa.specs.declared.statement.What.TheOpen.{Work, Call, Loop, Send, Recv, Lock, Unlock, Spawn, Labels}
use Rattle.gp_isa.specs.Statement.{Action, action_of}
use Rattle.gp_stack.specs.declared.statement.Ahead.{Ahead}
use Rattle.gp_stack.specs.declared.statement.Ahead.TheVariants as ahead
use Rattle.gp_stack.specs.declared.statement.Operation.{Operation}
use Rattle.gp_stack.specs.declared.statement.Operation.TheVariants as operation

-- an operation as what a statement does
abbrev pub action_of_operation : Operation → Action
action_of_operation (operation.Send c) = Send c
action_of_operation (operation.Recv c) = Recv c
action_of_operation (operation.Lock m) = Lock m
action_of_operation (operation.Unlock m) = Unlock m
action_of_operation (operation.Spawn f) = Spawn f

-- statement `at` of a body does this
pub record Does (body : List Stmt) (at : ℕ) (a : Action) : Type 0 where
  pub statement : Stmt
  pub stands : slice_get body at ≡ Some statement
  pub does : action_of statement ≡ a

-- what is told to stand at a place stands there
abbrev pub IsAhead : List Stmt → ℕ → Ahead → Type 0
IsAhead body at ahead.End = length body ≤ at
IsAhead body at (ahead.Work n) = Does body at (Work n)
IsAhead body at (ahead.Labels s) = Does body at (Labels s)
IsAhead body at (ahead.Loop n inner) = (end : ℕ) × Does body at (Loop n inner.now end)
IsAhead body at (ahead.Call f) = Does body at (Call f)
IsAhead body at (ahead.Shared o) = Does body at (action_of_operation o)

-- where a statement stands, the place behind it is a number of the machine
abbrev pub HasNext : ℕ → Ahead → Type 0
HasNext at ahead.End = Unit {0}
HasNext at (ahead.Work n) = at + 1 < 2 ^ 64
HasNext at (ahead.Labels s) = at + 1 < 2 ^ 64
HasNext at (ahead.Loop n inner) = at + 1 < 2 ^ 64
HasNext at (ahead.Call f) = at + 1 < 2 ^ 64
HasNext at (ahead.Shared o) = at + 1 < 2 ^ 64
