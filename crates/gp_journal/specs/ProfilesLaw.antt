-- The law of the records: how they grow, and what they show.
use Rattle.std.specs.Prelude.{◌≡◌, List, [], ◌∷◌, ◌++◌, length}
use Rattle.gp_journal.specs.declared.entry.Entry.{Entry}
use Rattle.gp_journal.specs.declared.settings.Settings.{Settings}
use Rattle.gp_journal.specs.State.{Code}
use Rattle.gp_journal.specs.May.{May}
use Rattle.gp_journal.specs.Run.{IsLegal, last}
use Rattle.gp_journal.specs.Profiles.{records_of, grown, AreFrozen}

-- The records of a legal journal grow with each entry that may come next.
abbrev pub RecordsGrow : Type 0
RecordsGrow = (code : Code) (settings : Settings) (journal : List Entry) (entry : Entry) →
    IsLegal code settings journal → May code settings (last code settings journal) entry →
    records_of code settings (journal ++ entry ∷ []) ≡ grown code (last code settings journal) (records_of code settings journal) entry

-- There are as many as the last epoch says.
abbrev pub RecordsAreCounted : Type 0
RecordsAreCounted = (code : Code) (settings : Settings) (journal : List Entry) → IsLegal code settings journal →
    length (records_of code settings journal) ≡ (last code settings journal).last_epoch

-- Where no profile is active at the end, they are the frozen rows at the Opens.
abbrev pub RecordsAreFrozen : Type 0
RecordsAreFrozen = (code : Code) (settings : Settings) (journal : List Entry) → IsLegal code settings journal →
    (last code settings journal).active ≡ 0 → AreFrozen code settings journal (records_of code settings journal)
