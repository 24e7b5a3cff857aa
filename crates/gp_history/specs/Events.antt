-- The block and mutex events of a journal, and what one Op leaves of them.
use Rattle.std.specs.Prelude.{◌*◌, ◌==◌, ℕ, suc, List, [], ◌∷◌, map, length, if◌then◌else◌, Option, Some, None}
use Rattle.gp_isa.specs.Limits.{block_frames, mutex_frames}
use Rattle.gp_isa.specs.declared.parts.Parts.{Parts}
use Rattle.gp_events.specs.Event.{Event}
use Rattle.gp_events.specs.Fraction.{is_kept}
use Rattle.gp_journal.specs.declared.entry.Entry.{Entry}
use Rattle.gp_journal.specs.declared.settings.Settings.{Settings}
use Rattle.gp_journal.specs.State.{Code, code_of}
use Rattle.gp_journal.specs.Answer.{foreseen}
use Rattle.gp_journal.specs.Run.{last}
use Rattle.gp_journal.specs.Waits.{Waited, waits_of, contentions_of}
use Rattle.gp_history.specs.declared.op_event.OpEvent.{OpEvent}
use Rattle.gp_history.specs.declared.op_event.OpEvent.TheVariants.{Nothing, Block, Mutex, Skipped}

-- a wait as one event, and as one that stands for n of its kind
abbrev pub counted : Waited → Event
counted it = record { stack = it.stack; count = 1; delay = it.delay }

abbrev pub weighed : ℕ → Waited → Event
weighed n it = record { stack = it.stack; count = n; delay = n * it.delay }

-- The block events: at rate 0 none, at rate 1 each wait that ended.
unfoldable pub block_events : Code → Settings → List Entry → List Event
block_events code settings journal = if settings.block == 0 then [] else map counted (waits_of code settings journal)

-- Of waits at contended unlocks, numbered from k on, those that are kept at a fraction, each standing for so many.
abbrev pub kept_from : ℕ → ℕ → ℕ → List Waited → List Event
kept_from seed f k [] = []
kept_from seed f k (it ∷ rest) =
    if is_kept seed f k then weighed f it ∷ kept_from seed f (suc k) rest else kept_from seed f (suc k) rest

-- The mutex events: at fraction 0 none, else the waits at contended unlocks that are kept.
unfoldable pub mutex_events : Code → Settings → List Entry → List Event
mutex_events code settings journal =
    if settings.mutex == 0 then [] else kept_from settings.seed settings.mutex 0 (contentions_of code settings journal)

-- the number of the next contended unlock
abbrev pub unlocks_so_far : Code → Settings → List Entry → ℕ
unlocks_so_far code settings journal = length (contentions_of code settings journal)

-- what the contended unlock of number k leaves
abbrev pub unlock_event : Settings → ℕ → Option ℕ → OpEvent
unlock_event settings k None = Nothing
unlock_event settings k (Some delay) =
    if settings.mutex == 0 then Nothing
    else if is_kept settings.seed settings.mutex k then Mutex delay
    else Skipped

-- What an Op leaves of which this is foreseen. Where it ends a wait it wakes nobody.
abbrev pub event_foreseen : Settings → ℕ → Option ℕ → Option ℕ → OpEvent
event_foreseen settings k (Some delay) contended = if settings.block == 0 then Nothing else Block delay
event_foreseen settings k None contended = unlock_event settings k contended

-- What the Op of g leaves after a journal.
abbrev pub event_of : Parts → Settings → List Entry → ℕ → OpEvent
event_of program settings journal g =
    let code = code_of program in
    let told = foreseen code (last code settings journal) g in
    event_foreseen settings (unlocks_so_far code settings journal) told.wait told.contended

-- how many frames of its goroutine's stack are kept with it
abbrev pub frames_of : OpEvent → ℕ
frames_of Nothing = 0
frames_of (Block delay) = block_frames
frames_of (Mutex delay) = mutex_frames
frames_of Skipped = 0

-- whether one is added to the sums
abbrev pub AddsEvent : OpEvent → Type 0
AddsEvent (Block delay) = Unit {0}
AddsEvent (Mutex delay) = Unit {0}
AddsEvent _ = ⊥
