-- Laws on the numbers of legal journals.
use Rattle.std.specs.Prelude.{◌≡◌, ◌⊎◌, ◌+◌, ◌*◌, ◌≤◌, ◌<◌, ℕ, true, List, length, sum_by}
use Rattle.gp_isa.specs.Limits.{most_requests}
use Rattle.gp_journal.specs.declared.entry.Entry.{Entry}
use Rattle.gp_journal.specs.declared.goroutine.Worker.{Worker}
use Rattle.gp_journal.specs.declared.settings.Settings.{Settings}
use Rattle.gp_journal.specs.Settings.{AreInRange, quantum}
use Rattle.gp_journal.specs.State.{Code, State, goroutine, worker, is_live, births}
use Rattle.gp_journal.specs.Run.{IsLegal, last, at}

-- The number of entries is the journal's length.
abbrev pub EntriesAreCounted : Type 0
EntriesAreCounted = (code : Code) (settings : Settings) (journal : List Entry) →
    (last code settings journal).entries ≡ length journal

-- What the numbers of a state keep.
pub record KeepsNumbers (settings : Settings) (state : State) : Type 0 where
  pub clock_is_sum : state.clock ≡ sum_by (λ (w : Worker). w.instructions) state.workers
  pub clock_bound : state.clock ≤ quantum * state.entries
  pub slice_bound : (w : ℕ) → (worker state w).slice ≤ quantum
  pub births_bound : births state ≤ settings.cells
  pub live_bound : (g : ℕ) → is_live (goroutine state g) ≡ true → g < settings.cells
  pub epoch_bound : state.last_epoch ≤ most_requests

-- That holds at every step of a legal journal.
abbrev pub NumbersHold : Type 0
NumbersHold = (code : Code) (settings : Settings) (journal : List Entry) (k : ℕ) → AreInRange settings →
    IsLegal code settings journal → KeepsNumbers settings (at code settings journal k)

-- the most entries of a legal journal
abbrev pub most_entries : Settings → ℕ
most_entries settings = settings.entries + most_requests * (settings.cells + 2) + 2 * settings.workers + 2

-- A legal journal has no more.
abbrev pub EntriesAreBounded : Type 0
EntriesAreBounded = (code : Code) (settings : Settings) (journal : List Entry) → AreInRange settings →
    IsLegal code settings journal → length journal ≤ most_entries settings

-- The clocks of goroutine g aren't above the state's, nor is the number of points that it has passed.
pub record HasComeTo (state : State) (g : ℕ) : Type 0 where
  pub count : (goroutine state g).count ≤ state.clock
  pub blocked : (goroutine state g).blocked ≤ state.clock
  pub woken : (goroutine state g).woken ≤ state.clock

-- So it is with each goroutine at every step of a legal journal.
abbrev pub ClocksAreBelow : Type 0
ClocksAreBelow = (code : Code) (settings : Settings) (journal : List Entry) (k g : ℕ) →
    IsLegal code settings journal → HasComeTo (at code settings journal k) g

-- The active epoch is the last one where a profile is active, so it is never above it.
pub record OrdersEpochs (state : State) : Type 0 where
  pub none_or_last : (state.active ≡ 0) ⊎ (state.active ≡ state.last_epoch)
  pub in_order : state.active ≤ state.last_epoch

-- That holds at every step of a legal journal.
abbrev pub EpochsAreOrdered : Type 0
EpochsAreOrdered = (code : Code) (settings : Settings) (journal : List Entry) (k : ℕ) →
    IsLegal code settings journal → OrdersEpochs (at code settings journal k)
