-- What a machine keeps beside its journal.
use Rattle.std.specs.Prelude.{◌≡◌, ◌+◌, ◌≤◌, ℕ, List, length, get_or}
use Rattle.gp_journal.specs.declared.entry.Entry.{Entry}
use Rattle.gp_journal.specs.declared.settings.Settings.{Settings}
use Rattle.gp_journal.specs.Settings.{AreInRange}
use Rattle.gp_journal.specs.State.{Code, State}
use Rattle.gp_journal.specs.Actors.{made_by}
use Rattle.gp_journal.specs.Run.{IsLegal, last}
use Rattle.gp_journal.specs.NumberLaws.{most_entries}

-- The journal is legal and has room for all entries that may come, the present state is the one after it, and each
-- actor's entries are counted.
pub record Keeps (code : Code) (settings : Settings) (room : ℕ) (journal : List Entry) (made : List ℕ) (present : State) : Type 0 where
  pub in_range : AreInRange settings
  pub legal : IsLegal code settings journal
  pub its_last : present ≡ last code settings journal
  pub reserved : most_entries settings ≤ room
  pub actors : length made ≡ settings.workers + 1
  pub made_each : (actor : ℕ) → get_or made actor 0 ≡ made_by settings actor journal
