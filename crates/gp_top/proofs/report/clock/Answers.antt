use Rattle.std.proofs.Common.{◌<◌, ◌^◌, sym, subst, ℕ}
use Rattle.gp_machine.specs.State.{code_of}
use Rattle.gp_top.proofs.Reporting.{clock_fits}
use Rattle.gp_top.proofs.report.clock.Goals as goal

pub returns-clause-fits : goal.returns-clause-fits
returns-clause-fits g c =
    subst (λ (n : ℕ). n < 2 ^ 53) (sym c.clock.ensures) (clock_fits (code_of g.R.Run.program) g.R.Run.settings c.args.machine.now c.requires c.journal.ensures.legal)
