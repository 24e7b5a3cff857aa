-- What a world keeps whenever its lock is free.
use Rattle.std.specs.Prelude.{◌≡◌, ◌+◌, ◌<◌, ◌≤◌, ◌⊎◌, ◌==◌, ℕ, zero, suc, ◌&&◌, List, length, get_or, if◌then◌else◌}
use Rattle.std.specs.List.{AllByRecursion}
use Rattle.gp_isa.specs.declared.parts.Parts.{Parts}
use Rattle.gp_stack.specs.Body.{HasRoom}
use Rattle.gp_stack.specs.declared.body.Body.{Body}
use Rattle.gp_journal.specs.declared.entry.Entry.{Entry}
use Rattle.gp_journal.specs.declared.settings.Settings.{Settings}
use Rattle.gp_journal.specs.Due.{IsComplete}
use Rattle.gp_journal.specs.Run.{IsLegal, state_of}
use Rattle.gp_journal.specs.Settings.{AreInRange}
use Rattle.gp_journal.specs.Standing.{times}
use Rattle.gp_journal.specs.State.{State, code_of, worker, births}
use Rattle.gp_machine.specs.Queue.{Line}
use Rattle.gp_tally.specs.declared.row.Row.{Row}
use Rattle.gp_world.specs.Calls.{live_at_open}
use Rattle.gp_world.specs.declared.ring_end.RingEnd.{RingEnd}
use Rattle.gp_world.specs.declared.world.Numbers.{Numbers}
use Rattle.gp_world.specs.kept.Ending.{IsEnd}
use Rattle.gp_world.specs.Rows.{blank, row_of, has_picked, between_profiles, within_profile, has_finished, on_of}

-- how often g is picked, by a row and by the first n rows
abbrev pub picks_by : Row → ℕ → ℕ
picks_by row g = if (row.a == has_picked) && (row.b == g) then 1 else 0

abbrev pub picks : List Row → ℕ → ℕ → ℕ
picks rows zero g = 0
picks rows (suc n) g = picks rows n g + picks_by (get_or rows n blank) g

-- what the profiler's row says of profiles
pub record TellsProfiles (settings : Settings) (state : State) (row : Row) : Type 0 where
  pub epoch : row.b ≡ state.last_epoch
  pub is_one : ((row.a ≡ between_profiles) × (state.active ≡ 0))
      ⊎ (((row.a ≡ within_profile) × (0 < state.active)) ⊎ ((has_finished ≤ row.a) × IsComplete settings state))

-- The book's rows are the actors': what each did is the journal's, whom a worker runs is the state's, and who waits and whom
-- workers have picked are together who stands in the queue, each as often as there.
pub record AreRows (program : Parts) (settings : Settings) (journal : List Entry) (waiting : List ℕ) (rows : List Row) : Type 0 where
  pub actors : length rows ≡ settings.workers + 1
  pub counted : (actor : ℕ) → actor ≤ settings.workers →
      let row = get_or rows actor blank in row ≡ row_of program settings journal actor row.a row.b
  pub works : (w : ℕ) → w < settings.workers → (worker (state_of program settings journal) w).runs ≡ on_of (get_or rows w blank)
  pub waits : (g : ℕ) → times g waiting + picks rows settings.workers g ≡ times g (state_of program settings journal).queue
  pub profiles : TellsProfiles settings (state_of program settings journal) (get_or rows settings.workers blank)

-- The bodies of those not yet born: one for each cell that is left.
pub record AreUnborn (program : Parts) (settings : Settings) (journal : List Entry) (unborn : List Body) : Type 0 where
  pub each : length unborn + births (state_of program settings journal) ≡ settings.cells
  pub vacant : AllByRecursion (HasRoom program) unborn

-- The numbers that are kept beside are the options', and the journal's.
pub record AreNumbers (program : Parts) (settings : Settings) (journal : List Entry) (numbers : Numbers) : Type 0 where
  pub its_workers : numbers.workers ≡ settings.workers
  pub its_room : numbers.room ≡ settings.room
  pub its_expected : numbers.expected ≡ live_at_open (code_of program) settings journal

-- All of it. Which end of the ring the world has is told by the profiler's row.
pub record IsWorld (program : Parts) (settings : Settings) (journal : List Entry) (line : Line) (ring : RingEnd) (rows : List Row)
    (unborn : List Body) (numbers : Numbers) : Type 0 where
  pub in_range : AreInRange settings
  pub legal : IsLegal (code_of program) settings journal
  pub its_cells : line.cells ≡ settings.cells
  pub its_rows : AreRows program settings journal line.items rows
  pub its_ring : IsEnd program settings journal (get_or rows settings.workers blank).a ring
  pub its_unborn : AreUnborn program settings journal unborn
  pub its_numbers : AreNumbers program settings journal numbers
