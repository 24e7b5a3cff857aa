-- What the calls of a history ask for, and what they tell.
use Rattle.std.specs.Prelude.{◌≡◌, ℕ, min, List}
use Rattle.gp_isa.specs.declared.parts.Parts.{Parts}
use Rattle.gp_journal.specs.declared.entry.Entry.{Entry}
use Rattle.gp_journal.specs.declared.entry.Entry.TheVariants.{Op, Open, Record, Close}
use Rattle.gp_journal.specs.declared.settings.Settings.{Settings}
use Rattle.gp_journal.specs.Run.{state_of}
use Rattle.gp_machine.specs.OnWorker.{OfRunner}
use Rattle.gp_history.specs.declared.op_event.OpEvent.{OpEvent}
use Rattle.gp_history.specs.Events.{event_of}

-- An entry by which nobody comes to a shared point, and no profile begins, grows or ends.
abbrev pub IsPlain : Entry → Type 0
IsPlain (Op w g) = ⊥
IsPlain (Open epoch room) = ⊥
IsPlain (Record actor g) = ⊥
IsPlain (Close epoch) = ⊥
IsPlain _ = Unit {0}

-- The most records of a profile: no more goroutines are live than were born, and none is opened above the room.
abbrev pub most_rows : Settings → ℕ
most_rows settings = min settings.cells settings.room

-- what the due Op of a worker leaves after a journal
abbrev pub IsEventOn : Parts → Settings → List Entry → ℕ → OpEvent → Type 0
IsEventOn program settings journal w event =
    OfRunner (state_of program settings journal) w (λ g. event ≡ event_of program settings journal g)
