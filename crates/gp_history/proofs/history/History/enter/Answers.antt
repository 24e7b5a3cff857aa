use Rattle.std.proofs.Common.{subst}
use Rattle.gp_history.specs.kept.History.{KeepsRun}
use Rattle.gp_history.proofs.Keeping.{entered}
use Rattle.gp_history.proofs.history.History.enter.Goals as goal

pub invariant_of-self : goal.invariant_of-self
invariant_of-self g c =
    let was = subst (λ j. KeepsRun g.R.Run.program g.R.Run.settings j c.self.inside.recorder c.self.inside.waits) c.self.view_is c.self.invariant in
    rw (c.apply.ensures.journal, c.self.view_is) (entered g.R.Run.program g.R.Run.settings c.args.self.now c.self.inside.recorder c.self.inside.waits was c.args.made c.requires.may c.requires.plain)
