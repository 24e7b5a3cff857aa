-- What comes as a point of a trace.
use Rattle.std.specs.Prelude.{ℕ, List, [], ◌∷◌, drop, Option, Some, None}
use Rattle.gp_isa.specs.Trace.{Instruction, Local as LocalPoint, Labels, Send, Recv, Lock, Unlock, Spawn, Point}
use Rattle.gp_stack.specs.declared.peek.Then.{Then}
use Rattle.gp_stack.specs.declared.peek.Then.TheVariants.{Local, Shared, Over}
use Rattle.gp_stack.specs.declared.statement.Operation.{Operation}
use Rattle.gp_stack.specs.declared.statement.Operation.TheVariants as operation

-- the operation of a shared point
abbrev pub operation_of : Instruction → Option Operation
operation_of LocalPoint = None
operation_of (Labels s) = None
operation_of (Send c) = Some (operation.Send c)
operation_of (Recv c) = Some (operation.Recv c)
operation_of (Lock m) = Some (operation.Lock m)
operation_of (Unlock m) = Some (operation.Unlock m)
operation_of (Spawn f) = Some (operation.Spawn f)

abbrev pub then_is : Option Operation → Then
then_is None = Local
then_is (Some o) = Shared o

-- what the first of some points is
abbrev pub first_of : List Point → Then
first_of [] = Over
first_of (point ∷ points) = then_is (operation_of point.instruction)

-- what comes as point number `count`
unfoldable pub then_at : List Point → ℕ → Then
then_at points count = first_of (drop count points)
