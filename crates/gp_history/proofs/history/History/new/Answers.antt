use Rattle.std.proofs.Common.{[], false, length, sym, subst}
use Rattle.gp_events.specs.Fraction.{choice_after}
use Rattle.gp_journal.specs.declared.settings.Settings.{Settings}
use Rattle.gp_journal.specs.Settings.{AreInRange}
use Rattle.gp_history.specs.History.{most_rows}
use Rattle.gp_history.specs.kept.History.{KeepsRun}
use Rattle.gp_history.proofs.Keeping.{begun}
use Rattle.gp_history.proofs.history.History.new.Goals as goal

pub invariant_of-result : goal.invariant_of-result
invariant_of-result g c =
    rw (c.in_ok-new.ensures, c.in_ok-new-2.ensures, c.in_ok-new-3.ensures, c.len.ensures, c.most_rows.ensures)
    (subst (λ (s : Settings). KeepsRun g.R.Run.program g.R.Run.settings []
    (record { profiles = []; is_open = false; left = length s.at; each = most_rows s })
    (record { rate = s.block; block = []; mutex = []; choice = choice_after s.seed s.mutex 0 })) (sym c.requires.settings)
    (begun g.R.Run.program g.R.Run.settings (subst AreInRange c.requires.settings c.requires.range)))
