-- What the machine keeps in place: the present state, and the numbers of its run that stay.
use Rattle.std.specs.Prelude.{◌≡◌, ◌+◌, ◌<◌, ◌^◌, ℕ, List, length, get_or, map}
use Rattle.gp_isa.specs.declared.parts.Parts.{Parts}
use Rattle.gp_isa.specs.declared.parts.ChannelDecl.{ChannelDecl}
use Rattle.gp_isa.specs.InLimits.{AreInLimits}
use Rattle.gp_isa.specs.Trace.{trace}
use Rattle.gp_sync.specs.declared.effect.Effect.{Effect}
use Rattle.gp_sync.specs.declared.effect.Effect.TheVariants.{Wakes}
use Rattle.gp_journal.specs.declared.goroutine.Status.TheVariants.{Blocked}
use Rattle.gp_journal.specs.declared.settings.Settings.{Settings}
use Rattle.gp_machine.specs.declared.present.Plan.{Plan}
use Rattle.gp_journal.specs.Settings.{AreInRange, period}
use Rattle.gp_journal.specs.State.{State, goroutine, worker, births}
use Rattle.gp_journal.specs.Standing.{times}

-- The numbers that stay are those of a program and its options: the length of each trace, the number of entries at which
-- the journal is full, and the requests.
pub record FitsPlan (program : Parts) (settings : Settings) (plan : Plan) : Type 0 where
  pub length_each : (f : ℕ) → get_or plan.lengths.items f 0 ≡ length (trace program f)
  pub its_entries : plan.entries ≡ settings.entries
  pub its_requests : plan.at.items ≡ settings.at

-- They belong to a program in its limits and options in their ranges, and the channels' capacities are the program's and
-- the ticks' period the options'.
pub record FitsRun (program : Parts) (settings : Settings) (plan : Plan) (capacities : List ℕ) (between : ℕ) : Type 0 where
  pub in_range : AreInRange settings
  pub in_limits : AreInLimits program
  pub planned : FitsPlan program settings plan
  pub its_capacities : capacities ≡ map (λ (declared : ChannelDecl). declared.capacity) program.channels
  pub its_period : between ≡ period settings

-- each table has a place for each cell
pub record HasCells (settings : Settings) (goroutines queue waits : ℕ) : Type 0 where
  pub of_goroutines : goroutines ≡ settings.cells
  pub of_queue : queue ≡ settings.cells
  pub of_waits : waits ≡ settings.cells

-- n instructions more of g on w can be counted
pub record CanCount (state : State) (w g n : ℕ) : Type 0 where
  pub clock : state.clock + n < 2 ^ 64
  pub count : (goroutine state g).count + n < 2 ^ 64
  pub instructions : (worker state w).instructions + n < 2 ^ 64
  pub slice : (worker state w).slice + n < 2 ^ 64

-- g waits, and so can be woken
pub record CanWake (settings : Settings) (state : State) (g : ℕ) : Type 0 where
  pub is_born : g < births state
  pub is_cell : g < settings.cells
  pub blocked : (goroutine state g).status ≡ Blocked
  pub absent : times g state.queue ≡ 0

-- whom an effect wakes can be woken
abbrev pub CanMeet : Settings → State → Effect → Type 0
CanMeet settings state (Wakes h since) = CanWake settings state h
CanMeet settings state _ = Unit {0}
