use Rattle.std.proofs.Common.{subst}
use Rattle.gp_history.specs.kept.History.{KeepsRun}
use Rattle.gp_history.proofs.Entered.{none_open, some_left}
use Rattle.gp_history.proofs.Keeping.{opened}
use Rattle.gp_history.proofs.history.History.open.Goals as goal

pub begin-requires-clause-none_open : goal.begin-requires-clause-none_open
begin-requires-clause-none_open g c =
    let was = subst (λ j. KeepsRun g.R.Run.program g.R.Run.settings j c.self.inside.recorder c.self.inside.waits) c.self.view_is c.self.invariant in
    none_open g.R.Run.program g.R.Run.settings c.args.self.now c.self.inside.recorder was.recorded c.args.epoch c.args.room c.requires

pub begin-requires-clause-left : goal.begin-requires-clause-left
begin-requires-clause-left g c =
    let was = subst (λ j. KeepsRun g.R.Run.program g.R.Run.settings j c.self.inside.recorder c.self.inside.waits) c.self.view_is c.self.invariant in
    some_left g.R.Run.program g.R.Run.settings c.args.self.now c.self.inside.recorder was.recorded c.args.epoch c.args.room c.requires

pub invariant_of-self : goal.invariant_of-self
invariant_of-self g c =
    let was = subst (λ j. KeepsRun g.R.Run.program g.R.Run.settings j c.self.inside.recorder c.self.inside.waits) c.self.view_is c.self.invariant in
    rw (c.make.ensures.journal, c.self.view_is, c.begin.ensures) (opened g.R.Run.program g.R.Run.settings c.args.self.now c.self.inside.recorder c.self.inside.waits was c.args.epoch c.args.room c.requires)
