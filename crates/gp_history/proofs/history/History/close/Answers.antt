use Rattle.std.proofs.Common.{subst}
use Rattle.gp_history.specs.kept.History.{KeepsRun}
use Rattle.gp_history.proofs.Keeping.{closed}
use Rattle.gp_history.proofs.history.History.close.Goals as goal

pub invariant_of-self : goal.invariant_of-self
invariant_of-self g c =
    let was = subst (λ j. KeepsRun g.R.Run.program g.R.Run.settings j c.self.inside.recorder c.self.inside.waits) c.self.view_is c.self.invariant in
    rw (c.make.ensures.journal, c.self.view_is, c.end.ensures) (closed g.R.Run.program g.R.Run.settings c.args.self.now c.self.inside.recorder c.self.inside.waits was c.args.epoch c.requires)
