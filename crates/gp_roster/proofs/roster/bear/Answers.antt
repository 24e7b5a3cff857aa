use Rattle.std.proofs.Common.{◌≡◌, ◌-◌, ℕ, length, sym, ap, ◌∙◌, subst, arith}
use Rattle.gp_isa.specs.Calls.{IsProgram}
use Rattle.gp_isa.specs.InLimits.{AreInLimits}
use Rattle.gp_journal.specs.Run.{state_of}
use Rattle.gp_journal.specs.State.{goroutine}
use Rattle.gp_cells.specs.Goroutine.{IsLive, progress_in}
use Rattle.gp_roster.specs.Rows.{row_of}
use Rattle.gp_roster.proofs.LiveRows.{live_rows_are_live}
use Rattle.gp_roster.proofs.roster.bear.Goals as goal

pub returns-clause-body : goal.returns-clause-body
returns-clause-body g c =
    let state = state_of g.R.Run.program g.R.Run.settings c.args.machine.now in
    let h = length c.args.book.now.rows in
    let last : c.births.result - 1 ≡ length c.args.book.now.rows = omega (arith, c.births.ensures, c.requires.last) in
    let row : c.issue-share.result.row ≡ row_of h (goroutine state h) = c.issue-share.ensures.row ∙ c.row_of-row.ensures ∙ ap (λ (n : ℕ). row_of n (goroutine state n)) last in
    record {
      book = c.issue-share.ensures.book;
      number = c.issue-share.ensures.number;
      live = subst (IsLive g.R.Run.program) (sym row)
          (live_rows_are_live g.R.Run.program g.R.Run.settings c.args.machine.now h (subst AreInLimits c.requires.program c.parts.ensures.limits) (subst IsProgram c.requires.program c.parts.ensures.checked)
          c.journal.ensures.legal c.requires.live);
      in_step = record { progress = c.requires.place ∙ sym (ap progress_in row); stands = c.requires.stands };
    }
