-- The records of the goroutine profiles of a journal.
use Rattle.std.specs.Prelude.{◌≡◌, ◌-◌, ℕ, List, [], ◌∷◌, ◌++◌, length, get_or, set}
use Rattle.gp_stack.specs.declared.record.Record.{Record as Row}
use Rattle.gp_journal.specs.declared.entry.Entry.{Entry}
use Rattle.gp_journal.specs.declared.entry.Entry.TheVariants.{Open, Record}
use Rattle.gp_journal.specs.declared.settings.Settings.{Settings}
use Rattle.gp_journal.specs.State.{Code, State, goroutine, first}
use Rattle.gp_journal.specs.Effect.{after}
use Rattle.gp_journal.specs.Run.{last}
use Rattle.gp_journal.specs.Frozen.{row, frozen, rows_taken, sorted}

-- For each Open of entries, the rows that the Record entries from there up to the next Close take.
abbrev pub records_from : Code → Settings → State → List Entry → List (List Row)
records_from code settings state [] = []
records_from code settings state (Open epoch room ∷ entries) =
    let opened = after code settings state (Open epoch room) in
    rows_taken code settings opened entries ∷ records_from code settings opened entries
records_from code settings state (entry ∷ entries) = records_from code settings (after code settings state entry) entries

-- The records of each profile of a journal, by epoch.
unfoldable pub records_of : Code → Settings → List Entry → List (List Row)
records_of code settings journal = records_from code settings (first code settings) journal

-- Each profile's records, sorted by number, are the rows of all goroutines that were live at its Open, each once.
abbrev pub AreFrozen : Code → Settings → List Entry → List (List Row) → Type 0
AreFrozen code settings journal records = (before : List Entry) (epoch room : ℕ) (during : List Entry) →
    journal ≡ before ++ Open epoch room ∷ during →
    sorted (get_or records (epoch - 1) []) ≡ frozen code (last code settings before)

-- The last of some lists of rows.
abbrev pub last_rows : List (List Row) → List Row
last_rows lists = get_or lists (length lists - 1) []

-- Lists of rows, with one row more at the end of the last.
abbrev pub with_row : List (List Row) → Row → List (List Row)
with_row lists new = set lists (length lists - 1) (last_rows lists ++ new ∷ [])

-- The records with one entry more: an Open begins those of its profile, and a Record puts the row of its goroutine at
-- the end of the last ones.
abbrev pub grown : Code → State → List (List Row) → Entry → List (List Row)
grown code state records (Open epoch room) = records ++ [] ∷ []
grown code state records (Record actor g) = with_row records (row code g (goroutine state g))
grown code state records entry = records
