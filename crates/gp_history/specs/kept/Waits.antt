-- What a history keeps of waits.
use Rattle.std.specs.Prelude.{◌≡◌, ◌+◌, ◌*◌, ◌^◌, ◌==◌, ◌≤◌, ◌<◌, ℕ, Bool, ◌&&◌, List, length, if◌then◌else◌, Option, Some, None}
use Rattle.gp_isa.specs.declared.frame.Frame.{Frame}
use Rattle.gp_isa.specs.declared.parts.Parts.{Parts}
use Rattle.gp_events.specs.declared.sum.Sum.{Sum}
use Rattle.gp_events.specs.Event.{Event}
use Rattle.gp_events.specs.Sums.{sums, added, total_count, total_delay}
use Rattle.gp_events.specs.Fraction.{Choice, keeps_next, behind_next, choice_after}
use Rattle.gp_journal.specs.declared.entry.Entry.{Entry}
use Rattle.gp_journal.specs.declared.settings.Settings.{Settings}
use Rattle.gp_journal.specs.State.{Code, code_of}
use Rattle.gp_history.specs.declared.op_event.OpEvent.{OpEvent}
use Rattle.gp_history.specs.declared.op_event.OpEvent.TheVariants.{Nothing, Block, Mutex, Skipped}
use Rattle.gp_history.specs.Events.{block_events, mutex_events, unlocks_so_far}

-- The rate of block events, the sums of both kinds, and the choice of mutex events.
pub record KeptWaits : Type 0 where
  pub rate : ℕ
  pub block : List Sum
  pub mutex : List Sum
  pub choice : Choice

-- whether no event is recorded
abbrev pub are_off : KeptWaits → Bool
are_off waits = (waits.rate == 0) && (waits.choice.f == 0)

-- what the end of a wait leaves, and what a contended unlock does
abbrev pub block_event : KeptWaits → ℕ → OpEvent
block_event waits delay = if waits.rate == 0 then Nothing else Block delay

abbrev pub mutex_event : KeptWaits → ℕ → OpEvent
mutex_event waits delay =
    if waits.choice.f == 0 then Nothing
    else if keeps_next waits.choice then Mutex delay
    else Skipped

-- what an Op does of which this is foreseen
abbrev pub event_by : KeptWaits → Option ℕ → Option ℕ → OpEvent
event_by waits (Some delay) contended = block_event waits delay
event_by waits None (Some delay) = mutex_event waits delay
event_by waits None None = Nothing

-- a wait at a stack as one event, and as one that stands for n of its kind
abbrev pub one_at : List Frame → ℕ → Event
one_at stack delay = record { stack = stack; count = 1; delay = delay }

abbrev pub some_at : ℕ → List Frame → ℕ → Event
some_at n stack delay = record { stack = stack; count = n; delay = n * delay }

-- They go on by what an Op leaves, with its stack.
abbrev pub noted : OpEvent → List Frame → KeptWaits → KeptWaits
noted Nothing stack waits = waits
noted (Block delay) stack waits = record waits { block = added waits.block (one_at stack delay) }
noted (Mutex delay) stack waits =
    record waits { mutex = added waits.mutex (some_at waits.choice.f stack delay); choice = behind_next waits.choice }
noted Skipped stack waits = record waits { choice = behind_next waits.choice }

-- Sums have room for an event more.
pub record HasRoomFor (all : List Sum) (events nanoseconds : ℕ) : Type 0 where
  pub count : total_count all + events < 2 ^ 128
  pub delay : total_delay all + nanoseconds < 2 ^ 128

-- What an Op leaves may come.
abbrev pub MayNote : KeptWaits → OpEvent → Type 0
MayNote waits Nothing = Unit {0}
MayNote waits (Block delay) = HasRoomFor waits.block 1 delay
MayNote waits (Mutex delay) = (0 < waits.choice.f) × HasRoomFor waits.mutex waits.choice.f (waits.choice.f * delay)
MayNote waits Skipped = 0 < waits.choice.f

-- how many words of the choice were taken: at fraction 0 none
abbrev pub words_taken : Code → Settings → List Entry → ℕ
words_taken code settings journal = if settings.mutex == 0 then 0 else unlocks_so_far code settings journal

-- Sums of so many events at most, none of which is large.
pub record AreBounded (events : ℕ) (all : List Sum) : Type 0 where
  pub count : total_count all ≤ 2 ^ 32 * events
  pub delay : total_delay all ≤ 2 ^ 90 * events

-- They are the sums of a journal's events.
pub record AreWaits (program : Parts) (settings : Settings) (journal : List Entry) (waits : KeptWaits) : Type 0 where
  pub rate : waits.rate ≡ settings.block
  pub block : waits.block ≡ sums (block_events (code_of program) settings journal)
  pub mutex : waits.mutex ≡ sums (mutex_events (code_of program) settings journal)
  pub choice : waits.choice ≡ choice_after settings.seed settings.mutex (words_taken (code_of program) settings journal)
  pub block_bound : AreBounded (length journal) waits.block
  pub mutex_bound : AreBounded (length journal) waits.mutex
