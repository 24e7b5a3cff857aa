use Rattle.std.proofs.Common.{subst}
use Rattle.gp_history.specs.kept.History.{KeepsRun}
use Rattle.gp_history.proofs.Entered.{is_open, row_fits}
use Rattle.gp_history.proofs.Keeping.{recorded}
use Rattle.gp_history.proofs.history.History.record.Goals as goal

pub push-requires-clause-is_open : goal.push-requires-clause-is_open
push-requires-clause-is_open g c =
    let was = subst (λ j. KeepsRun g.R.Run.program g.R.Run.settings j c.self.inside.recorder c.self.inside.waits) c.self.view_is c.self.invariant in
    is_open g.R.Run.program g.R.Run.settings c.args.self.now c.self.inside.recorder was.recorded c.args.actor c.args.g c.requires.may

pub push-requires-clause-room : goal.push-requires-clause-room
push-requires-clause-room g c =
    let was = subst (λ j. KeepsRun g.R.Run.program g.R.Run.settings j c.self.inside.recorder c.self.inside.waits) c.self.view_is c.self.invariant in
    row_fits g.R.Run.program g.R.Run.settings c.args.self.now c.self.inside.recorder was.recorded c.args.actor c.args.g c.requires.may

pub invariant_of-self : goal.invariant_of-self
invariant_of-self g c =
    let was = subst (λ j. KeepsRun g.R.Run.program g.R.Run.settings j c.self.inside.recorder c.self.inside.waits) c.self.view_is c.self.invariant in
    rw (c.make.ensures.journal, c.self.view_is, c.push.ensures) (recorded g.R.Run.program g.R.Run.settings c.args.self.now c.self.inside.recorder c.self.inside.waits was c.args.actor c.args.g c.args.copy c.requires.may c.requires.copy)
