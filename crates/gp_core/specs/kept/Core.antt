-- What a core keeps in place, and what that stands for.
use Rattle.std.specs.Prelude.{◌≡◌, ◌<◌, ℕ, List, length, get_or, map, Option, Some, None}
use Rattle.gp_isa.specs.declared.parts.Parts.{Parts}
use Rattle.gp_stack.specs.declared.body.Body.{Body}
use Rattle.gp_stack.specs.declared.record.Record.{Record as Row}
use Rattle.gp_stack.specs.Body.{progress_of, StandsIn}
use Rattle.gp_journal.specs.declared.entry.Entry.{Entry}
use Rattle.gp_journal.specs.declared.goroutine.Goroutine.{Goroutine}
use Rattle.gp_journal.specs.declared.settings.Settings.{Settings}
use Rattle.gp_journal.specs.Bodies.{standing}
use Rattle.gp_journal.specs.Settings.{AreInRange}
use Rattle.gp_journal.specs.State.{code_of, nobody}
use Rattle.gp_core.specs.declared.word.Word.{Word}
use Rattle.gp_core.specs.declared.word.Word.TheVariants.{Dead}
use Rattle.gp_core.specs.declared.hold.Hold.{Hold}
use Rattle.gp_core.specs.declared.event.CoreEvent.{CoreEvent}
use Rattle.gp_core.specs.CoreState.{CoreState, word, now}
use Rattle.gp_core.specs.Events.{IsAllowed, core_after}

-- how many points a body has passed, where there is one
abbrev pub count_of : Option Body → ℕ
count_of None = 0
count_of (Some body) = (progress_of body).count

-- What is kept stands for this core.
abbrev pub core_of : List Entry → List Word → List (Option Body) → List (Option Hold) → List (ℕ × Row) → CoreState
core_of journal words bodies hands copies = record {
  journal = journal;
  words = words;
  counts = map count_of bodies;
  hands = hands;
  copies = copies;
}

-- the body of a goroutine, where there is one
abbrev pub body_at : List (Option Body) → ℕ → Option Body
body_at bodies g = get_or bodies g None

-- A body is there but where the word is dead, and stands in the program where its goroutine stands, which was born.
abbrev pub FitsBody : Parts → List Goroutine → ℕ → Word → Option Body → Type 0
FitsBody program goroutines g word None = word ≡ Dead
FitsBody program goroutines g word (Some body) =
    (g < length goroutines) × (StandsIn program body × (progress_of body ≡ standing (get_or goroutines g nobody)))

abbrev pub BodiesFit : Parts → List Goroutine → (ℕ → Word) → List (Option Body) → Type 0
BodiesFit program goroutines words bodies = (g : ℕ) → FitsBody program goroutines g (words g) (body_at bodies g)

-- Some list of events, each enabled where it comes, leads to this core, and its bodies fit.
pub record IsReachedBy (program : Parts) (settings : Settings) (workers room : ℕ) (bodies : List (Option Body))
    (core : CoreState) : Type 0 where
  pub in_range : AreInRange settings
  pub its_workers : workers ≡ settings.workers
  pub its_room : room ≡ settings.room
  pub events : List CoreEvent
  pub allowed : IsAllowed (code_of program) settings events
  pub is_after : core ≡ core_after (code_of program) settings events
  pub bodies_fit : BodiesFit program (now (code_of program) settings core).goroutines (word core) bodies
