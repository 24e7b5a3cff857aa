-- Where an operation comes next, the next point is shared, and that operation is done at it.
use Rattle.std.proofs.Common.{◌≡◌, ℕ, false, List, Some, refl, subst}
use Rattle.gp_isa.specs.Trace.{Point, Instruction, Local as LocalPoint, Labels, Send, Recv, Lock, Unlock, Spawn, is_local}
use Rattle.gp_stack.specs.declared.peek.Then.TheVariants.{Shared}
use Rattle.gp_stack.specs.declared.statement.Operation.{Operation}
use Rattle.gp_stack.specs.Body.{IsAtShared}
use Rattle.gp_stack.specs.Goroutine.{next_point}
use Rattle.gp_stack.specs.Peek.{operation_of, then_at}
use Rattle.gp_stack.proofs.Coming.{Tells, told_at}

shared_operation : (i : Instruction) (o : Operation) → operation_of i ≡ Some o → is_local i ≡ false
shared_operation LocalPoint o e = absurd (cc)
shared_operation (Labels s) o e = absurd (cc)
shared_operation (Send c) o e = refl
shared_operation (Recv c) o e = refl
shared_operation (Lock m) o e = refl
shared_operation (Unlock m) o e = refl
shared_operation (Spawn f) o e = refl

pub at_shared : (points : List Point) (count : ℕ) (o : Operation) → then_at points count ≡ Shared o → IsAtShared points count × (operation_of (next_point points count).instruction ≡ Some o)
unfolding Tells
at_shared points count o shared =
    let tells : Tells points count (Shared o) = subst (Tells points count) shared (told_at points count) in
    (record { going = tells.0; shared = shared_operation (next_point points count).instruction o tells.1 }, tells.1)
