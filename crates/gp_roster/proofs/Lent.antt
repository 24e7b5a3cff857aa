-- What a body on loan tells, where its share's row is found in a book of the state's rows.
use Rattle.std.proofs.Common.{◌≡◌, ℕ, ◌+◌, ◌<◌, Bool, true, false, List, Some, refl, sym, ap, ◌∙◌, subst, arith, if◌then◌else◌}
use Rattle.std.specs.Prelude.{slice_get}
use Rattle.atomic_table.specs.Seated.{TableId}
use Rattle.gp_isa.specs.declared.parts.Parts.{Parts}
use Rattle.gp_isa.specs.Calls.{IsProgram}
use Rattle.gp_isa.specs.InLimits.{AreInLimits}
use Rattle.gp_stack.specs.declared.record.Record.{Record as Copy}
use Rattle.gp_stack.specs.Body.{progress_of}
use Rattle.gp_stack.specs.Record.{record_of}
use Rattle.gp_tally.specs.declared.row.Row.{Row}
use Rattle.gp_journal.specs.declared.entry.Entry.{Entry}
use Rattle.gp_journal.specs.declared.goroutine.Goroutine.{Goroutine}
use Rattle.gp_journal.specs.declared.settings.Settings.{Settings}
use Rattle.gp_journal.specs.Bodies.{standing}
use Rattle.gp_journal.specs.Frozen.{row}
use Rattle.gp_journal.specs.Run.{IsLegal, state_of}
use Rattle.gp_journal.specs.State.{State, code_of, goroutine, births, is_live}
use Rattle.gp_cells.specs.declared.held.Held.{Held}
use Rattle.gp_cells.specs.Goroutine.{IsLive, progress_in}
use Rattle.gp_roster.specs.Lent.{IsLent}
use Rattle.gp_roster.specs.Rows.{row_of, rows_of}
use Rattle.gp_roster.proofs.LiveRows.{live_rows_are_live}
use Rattle.gp_roster.proofs.RowLists.{row_is}

-- whoever has a live mark is live
marked : (g : ℕ) (live : Bool) → 0 < (if live then g + 1 else 0) → live ≡ true
marked g true some = refl
marked g false some = absurd (omega arith)

pub is_live_by_row : (g : ℕ) (it : Goroutine) (found : Row) → found ≡ row_of g it → 0 < found.d → is_live it ≡ true
is_live_by_row g it found is some = marked g (is_live it) (subst (λ (n : ℕ). 0 < n) (ap (λ (r : Row). r.d) is) some)

-- so its row is live
pub row_is_live : (program : Parts) (settings : Settings) (journal : List Entry) (g : ℕ) (found : Row) → AreInLimits program → IsProgram program → IsLegal (code_of program) settings journal →
    found ≡ row_of g (goroutine (state_of program settings journal) g) → 0 < found.d → IsLive program found
row_is_live program settings journal g found limits checked legal is some =
    subst (IsLive program) (sym is)
    (live_rows_are_live program settings journal g limits checked legal (is_live_by_row g (goroutine (state_of program settings journal) g) found is some))

module _ (program : Parts) (roster : TableId) (actor g : ℕ) (held : Held) (lent : IsLent program roster actor g held)
    (s : State) (rows : List Row) (are : rows ≡ rows_of s) (found : slice_get rows held.body.share.number ≡ Some held.body.share.row) where
  there : slice_get rows g ≡ Some held.body.share.row
  there = subst (λ n. slice_get rows n ≡ Some held.body.share.row) lent.number found

  -- The goroutine was born, and the row is its row.
  pub lent_born : g < births s
  lent_born = (row_is s rows g held.body.share.row are there).0

  pub lent_row : held.body.share.row ≡ row_of g (goroutine s g)
  lent_row = (row_is s rows g held.body.share.row are there).1

  -- The body stands where its goroutine stands,
  pub lent_stands : progress_of held.body.body ≡ standing (goroutine s g)
  lent_stands = lent.in_step.progress ∙ ap progress_in lent_row

  -- a copy of it is the goroutine's row in a profile,
  pub lent_copy : (copy : Copy) → copy ≡ record_of program g (progress_in held.body.share.row) → copy ≡ row (code_of program) g (goroutine s g)
  lent_copy copy is = is ∙ ap (λ (r : Row). record_of program g (progress_in r)) lent_row

  -- and the goroutine is live where the row says so.
  pub lent_is_live : 0 < held.body.share.row.d → is_live (goroutine s g) ≡ true
  lent_is_live some = is_live_by_row g (goroutine s g) held.body.share.row lent_row some
