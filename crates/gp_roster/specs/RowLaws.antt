-- Laws on the rows of goroutines in legal journals: which are live, and which one an entry changes.
use Rattle.std.specs.Prelude.{◌≡◌, ◌+◌, ℕ, Bool, true, List, [], ◌∷◌, ◌++◌, slice_set, if◌then◌else◌, Option, Some, None}
use Rattle.gp_isa.specs.declared.parts.Parts.{Parts}
use Rattle.gp_isa.specs.Calls.{IsProgram}
use Rattle.gp_isa.specs.InLimits.{AreInLimits}
use Rattle.gp_tally.specs.declared.row.Row.{Row}
use Rattle.gp_journal.specs.declared.answer.Applied.{Applied}
use Rattle.gp_journal.specs.declared.answer.Applied.TheVariants.{Plain, Passed, Born}
use Rattle.gp_journal.specs.declared.entry.Entry.{Entry}
use Rattle.gp_journal.specs.declared.entry.Entry.TheVariants.{Run, Op}
use Rattle.gp_journal.specs.declared.settings.Settings.{Settings}
use Rattle.gp_journal.specs.Answer.{applied}
use Rattle.gp_journal.specs.Run.{IsLegal, state_of}
use Rattle.gp_journal.specs.State.{State, code_of, goroutine, births, is_live}
use Rattle.gp_journal.specs.StepLaws.{OfEachEntry}
use Rattle.gp_cells.specs.Goroutine.{IsLive}
use Rattle.gp_roster.specs.Rows.{row_of, rows_of}

-- In a legal journal of a checked program a live goroutine's row is live: its trace isn't ended.
abbrev pub LiveRowsAreLive : Type 0
LiveRowsAreLive = (program : Parts) (settings : Settings) (journal : List Entry) (g : ℕ) → AreInLimits program → IsProgram program →
    IsLegal (code_of program) settings journal →
    let it = goroutine (state_of program settings journal) g in
    is_live it ≡ true → IsLive program (row_of g it)

-- the goroutine whose row an entry may change
abbrev pub mover : Entry → Option ℕ
mover (Run w g n) = Some g
mover (Op w g) = Some g
mover _ = None

-- a row whose goroutine passed so many points, and died with them or didn't
abbrev pub passed_row : ℕ → Bool → Row → Row
passed_row n died row = record row { c = row.c + n; d = if died then 0 else row.d }

-- what an entry makes of that row, by its answer
abbrev pub told_row : Entry → Applied → Row → Row
told_row (Run w g n) (Plain died) row = passed_row n died row
told_row (Op w g) (Passed woke event died) row = passed_row 1 died row
told_row (Op w g) (Born h died) row = passed_row 1 died row
told_row _ _ row = row

-- So it is with each entry of a legal journal.
abbrev pub RowsAreTold : Type 0
RowsAreTold = OfEachEntry (λ code settings before entry now. (g : ℕ) → mover entry ≡ Some g →
    row_of g (goroutine now g) ≡ told_row entry (applied code settings before entry) (row_of g (goroutine before g)))

-- the row of the one that an entry bears, by its answer, if it bears one
abbrev pub newborn_rows : State → Applied → List Row
newborn_rows now (Born h died) = row_of h (goroutine now h) ∷ []
newborn_rows now _ = []

-- the rows after an entry that is answered so: that one's row is what the goroutine is now, and a newborn's stands behind the others
abbrev pub rows_after : Option ℕ → State → State → Applied → List Row
rows_after None before now told = rows_of before
rows_after (Some g) before now told = slice_set (rows_of before) g (row_of g (goroutine now g)) ++ newborn_rows now told

-- So it is, too. A wake moves nobody's count.
abbrev pub RowsFollow : Type 0
RowsFollow = OfEachEntry (λ code settings before entry now.
    rows_of now ≡ rows_after (mover entry) before now (applied code settings before entry))

-- Who is born has the next number.
abbrev pub NewbornsAreLast : Type 0
NewbornsAreLast = OfEachEntry (λ code settings before entry now. (h : ℕ) (died : Bool) →
    applied code settings before entry ≡ Born h died → (h ≡ births before) × (births now ≡ births before + 1))
