-- The states that legal journals reach.
use Rattle.std.specs.Prelude.{◌≡◌, ◌<◌, ℕ, List, length}
use Rattle.gp_journal.specs.declared.entry.Entry.{Entry}
use Rattle.gp_journal.specs.declared.goroutine.Status.TheVariants.{Running}
use Rattle.gp_journal.specs.declared.settings.Settings.{Settings}
use Rattle.gp_journal.specs.State.{Code, State, goroutine, births}
use Rattle.gp_journal.specs.Run.{IsLegal, last}

-- The state of some legal journal.
pub record IsReached (code : Code) (settings : Settings) (state : State) : Type 0 where
  pub journal : List Entry
  pub legal : IsLegal code settings journal
  pub its_last : state ≡ last code settings journal

-- worker w runs g
pub record Runs (settings : Settings) (state : State) (w g : ℕ) : Type 0 where
  pub is_worker : w < length state.workers
  pub is_born : g < births state
  pub is_cell : g < settings.cells
  pub status : (goroutine state g).status ≡ Running w
