use Rattle.std.proofs.Common.{◌≡◌, ℕ, List, [], ◌∷◌, ◌++◌, length, refl, sym, ap, ◌∙◌, subst, unwrap_or}
use Rattle.std.specs.Prelude.{Option}
use Rattle.gp_isa.specs.Calls.{IsProgram}
use Rattle.gp_isa.specs.Checked.{main_of}
use Rattle.gp_isa.specs.InLimits.{AreInLimits}
use Rattle.gp_isa.specs.declared.parts.Parts.{Parts}
use Rattle.gp_stack.specs.Body.{StandsIn}
use Rattle.gp_tally.specs.declared.row.Row.{Row}
use Rattle.gp_journal.specs.State.{code_of, main_goroutine}
use Rattle.gp_cells.specs.Goroutine.{IsLive, progress_in}
use Rattle.gp_roster.specs.Rows.{row_of, rows_of}
use Rattle.gp_roster.proofs.LiveRows.{live_rows_are_live}
use Rattle.gp_roster.proofs.roster.begun.Goals as goal

-- main's row
main_row : (program : Parts) (main from : ℕ) → unwrap_or (main_of program) 0 ≡ main → from ≡ main → ◌≡◌ {A = Row} (record { a = from; b = 0; c = 0; d = 1 }) (row_of 0 (main_goroutine (code_of program)))
main_row program main from is same = λ i. record { a = (same ∙ sym is) i; b = 0; c = 0; d = 1 }

pub returns-clause-rows : goal.returns-clause-rows
unfolding rows_of
returns-clause-rows g c =
    let main : unwrap_or (main_of g.R.Run.program) 0 ≡ c.main-main.result = ap (λ (o : Option ℕ). unwrap_or o 0) (ap main_of (sym c.requires.program) ∙ c.main-main.ensures) in
    c.issue-share.ensures.rows
    ∙ ap (λ (rows : List Row). rows ++ record { a = c.from.result; b = 0; c = 0; d = 1 } ∷ []) c.in_ok-book.ensures.rows
    ∙ ap (λ (row : Row). row ∷ []) (main_row g.R.Run.program c.main-main.result c.from.result main c.from.ensures)

pub returns-clause-main : goal.returns-clause-main
returns-clause-main g c =
    let main : unwrap_or (main_of g.R.Run.program) 0 ≡ c.main-main.result = ap (λ (o : Option ℕ). unwrap_or o 0) (ap main_of (sym c.requires.program) ∙ c.main-main.ensures) in
    let row : c.issue-share.result.row ≡ row_of 0 (main_goroutine (code_of g.R.Run.program)) =
    c.issue-share.ensures.row ∙ main_row g.R.Run.program c.main-main.result c.from.result main c.from.ensures in
    record {
      book = c.issue-share.ensures.book ∙ sym c.issue-share.ensures.same.0;
      number = c.issue-share.ensures.number ∙ ap (λ (rows : List Row). length rows) c.in_ok-book.ensures.rows;
      live = subst (IsLive g.R.Run.program) (sym row)
          (live_rows_are_live g.R.Run.program g.R.Run.settings [] 0 (subst AreInLimits c.requires.program c.parts.ensures.limits) (subst IsProgram c.requires.program c.parts.ensures.checked) tt refl);
      in_step = record {
        progress = c.born.ensures.progress ∙ (λ i. record { start = sym main i; set = 0; count = 0 }) ∙ sym (ap progress_in row);
        stands = subst (λ (parts : Parts). StandsIn parts c.born.new.self) c.requires.program c.born.ensures.stands;
      };
    }
