-- What actors did, by their numbers.
use Rattle.std.specs.Prelude.{ℕ, List}
use Rattle.gp_isa.specs.declared.parts.Parts.{Parts}
use Rattle.gp_journal.specs.declared.entry.Entry.{Entry}
use Rattle.gp_journal.specs.declared.settings.Settings.{Settings}
use Rattle.gp_journal.specs.Actors.{made_by}
use Rattle.gp_journal.specs.Run.{state_of}
use Rattle.gp_journal.specs.State.{worker}

-- the instructions of a worker, and the entries of an actor
abbrev pub done_in : Parts → Settings → List Entry → ℕ → ℕ
done_in program settings journal w = (worker (state_of program settings journal) w).instructions

abbrev pub made_in : Settings → List Entry → ℕ → ℕ
made_in settings journal actor = made_by settings actor journal
