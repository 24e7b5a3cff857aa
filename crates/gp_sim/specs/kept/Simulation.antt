-- What a simulation has so far.
use Rattle.std.specs.Prelude.{◌≡◌, ◌≤◌, ℕ, Bool, List, Option, Some, None, is_some}
use Rattle.gp_isa.specs.declared.parts.Parts.{Parts}
use Rattle.gp_stack.specs.Body.{Progress}
use Rattle.gp_stack.specs.declared.statement.Operation.TheVariants as operation
use Rattle.gp_journal.specs.declared.answer.SharedPoint.{SharedPoint}
use Rattle.gp_journal.specs.declared.entry.Entry.{Entry}
use Rattle.gp_journal.specs.declared.entry.Entry.TheVariants.{Start, Park, Refuse}
use Rattle.gp_journal.specs.declared.settings.Settings.{Settings}
use Rattle.gp_journal.specs.Settings.{AreInRange}
use Rattle.gp_journal.specs.State.{Code, State, births}
use Rattle.gp_journal.specs.Run.{IsLegal, last}
use Rattle.gp_journal.specs.Bodies.{AreBodiesOf}
use Rattle.gp_sim.specs.declared.numbers.Turn.{Turn}
use Rattle.gp_samples.specs.RunRing.{KeepsRing}
use Rattle.gp_sim.specs.Choice.{SoFar, next_turn, after_turn}

-- what there is after a turn, where there was one
abbrev pub after_turn_if : Code → Settings → SoFar → Option Turn → SoFar
after_turn_if code settings before None = before
after_turn_if code settings before (Some turn) = after_turn code settings before turn

-- One turn: whether there was one is told, and it was taken.
pub record TakesTurn (code : Code) (settings : Settings) (made : Bool) (before now : SoFar) : Type 0 where
  pub told : made ≡ is_some (next_turn code settings before)
  pub after : now ≡ after_turn_if code settings before (next_turn code settings before)

-- All is as it was but the ring, from which a read that found no memory may have taken something.
pub record StaysButRing (before now : SoFar) : Type 0 where
  pub journal : now.journal ≡ before.journal
  pub taken : now.taken ≡ before.taken
  pub records : now.records ≡ before.records

-- the ring of a run so far is kept
abbrev pub KeepsItsRing : Parts → Settings → SoFar → Type 0
KeepsItsRing program settings run = KeepsRing program settings run.journal run.records run.ring

-- The bodies stand where their goroutines stand.
pub record IsSimulation (code : Code) (settings : Settings) (journal : List Entry) (bodies : List Progress) : Type 0 where
  pub in_range : AreInRange settings
  pub legal : IsLegal code settings journal
  pub its_bodies : AreBodiesOf (last code settings journal) bodies

-- An entry by which no goroutine passes a point or is sampled, and no profile begins, grows or ends.
abbrev pub IsQuiet : Entry → Type 0
IsQuiet (Start w g) = Unit {0}
IsQuiet (Park w g) = Unit {0}
IsQuiet (Refuse room n) = Unit {0}
IsQuiet _ = ⊥

-- a point at which nobody can be born: it is no spawn, or no cell is left
abbrev pub BearsNobody : Settings → State → SharedPoint → Type 0
BearsNobody settings state point = (f : ℕ) → point.operation ≡ operation.Spawn f → settings.cells ≤ births state
