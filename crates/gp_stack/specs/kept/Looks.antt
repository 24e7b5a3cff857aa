-- What a look at the points ahead finds, one after another.
use Rattle.std.specs.Prelude.{◌+◌, ℕ, zero, suc, List, [], ◌∷◌, map, Option, Some, None}
use Rattle.gp_isa.specs.Trace.{Point, points_at, points_of_body}
use Rattle.gp_isa.specs.declared.parts.Parts.{Parts}
use Rattle.gp_isa.specs.declared.size.Shared.{Shared as SharedPoint}
use Rattle.gp_isa.specs.declared.size.Shared.TheVariants as shared
use Rattle.gp_isa.specs.declared.statement.Stmt.{Stmt}
use Rattle.gp_isa.specs.Statement.{Action}
use Rattle.gp_stack.specs.declared.peek.Peek.{Peek}
use Rattle.gp_stack.specs.declared.peek.Then.TheVariants.{Local, Shared, Over}
use Rattle.gp_stack.specs.declared.statement.Operation.{Operation}
use Rattle.gp_stack.specs.declared.statement.Operation.TheVariants as operation
use Rattle.gp_stack.specs.Peek.{operation_of}
use Rattle.gp_stack.specs.kept.Level.{points_of_call}

-- points without their stacks: the operations of the shared ones
abbrev pub steps : List Point → List (Option Operation)
steps points = map (λ point. operation_of point.instruction) points

-- an operation, as the program tells it
abbrev pub operation_as : SharedPoint → Operation
operation_as (shared.Send c) = operation.Send c
operation_as (shared.Recv c) = operation.Recv c
operation_as (shared.Lock m) = operation.Lock m
operation_as (shared.Unlock m) = operation.Unlock m
operation_as (shared.Spawn f) = operation.Spawn f

abbrev pub one_local : ℕ → (ℕ → Peek) → Peek
one_local zero rest = record { local = 0; then = Local }
one_local (suc limit) rest = record { local = (rest limit).local + 1; then = (rest limit).then }

-- a look at points, one after another, up to a limit
abbrev pub peek_of : List (Option Operation) → ℕ → Peek
peek_of [] limit = record { local = 0; then = Over }
peek_of (None ∷ more) limit = one_local limit (peek_of more)
peek_of (Some o ∷ more) limit = record { local = 0; then = Shared o }

-- the points of a statement, and of statements, of function f, where so many calls and loops are followed
unfoldable pub points_of_action : Parts → ℕ → ℕ → ℕ → ℕ → Action → List Point
points_of_action parts calls loops f line a =
    points_at (points_of_call parts calls) (points_of_body (points_of_call parts calls) f loops) f line a

unfoldable pub points_of_all : Parts → ℕ → ℕ → ℕ → List Stmt → List Point
points_of_all parts calls loops f body = points_of_body (points_of_call parts calls) f (suc loops) body
