-- What whoever drives a machine shows it of a goroutine's body.
use Rattle.std.specs.Prelude.{◌≡◌, ◌+◌, ℕ, min, Option, Some}
use Rattle.gp_stack.specs.Goroutine.{local_ahead}
use Rattle.gp_stack.specs.Peek.{operation_of, then_at}
use Rattle.gp_stack.specs.declared.peek.Peek.{Peek}
use Rattle.gp_journal.specs.declared.answer.SharedPoint.{SharedPoint}
use Rattle.gp_journal.specs.declared.entry.Entry.{Entry}
use Rattle.gp_journal.specs.declared.entry.Entry.TheVariants.{Op}
use Rattle.gp_journal.specs.Settings.{quantum}
use Rattle.gp_journal.specs.State.{Code, State, goroutine, trace_of}
use Rattle.gp_journal.specs.Due.{next_instruction}
use Rattle.gp_journal.specs.Effect.{labels_at}

-- the point that is handed over with an Op is the goroutine's next one
pub record IsPointOf (code : Code) (state : State) (g : ℕ) (point : SharedPoint) : Type 0 where
  pub operation : operation_of (next_instruction code state g) ≡ Some point.operation
  pub labels : point.labels ≡ labels_at code (goroutine state g)

-- with each Op, and with no other entry
abbrev pub IsGiven : Code → State → Entry → Option SharedPoint → Type 0
IsGiven code state (Op w g) (Some point) = IsPointOf code state g point
IsGiven code state (Op w g) _ = ⊥
IsGiven code state _ _ = Unit {0}

-- a look ahead at the points of g is up to the quantum
pub record IsPeekAt (code : Code) (state : State) (g : ℕ) (peek : Peek) : Type 0 where
  pub local : peek.local ≡ min quantum (local_ahead (trace_of code (goroutine state g)) (goroutine state g).count)
  pub then : peek.then ≡ then_at (trace_of code (goroutine state g)) ((goroutine state g).count + peek.local)
