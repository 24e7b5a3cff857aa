use Rattle.std.proofs.Common.{sym, subst, ◌∙◌}
use Rattle.gp_machine.specs.OnWorker.{OpIsDueOn, IsForeseenOn}
use Rattle.gp_history.specs.kept.History.{KeepsRun}
use Rattle.gp_history.proofs.Keeping.{found, found_off}
use Rattle.gp_history.proofs.history.History.foresee.Goals as goal

pub foresee-requires-clause-due : goal.foresee-requires-clause-due
foresee-requires-clause-due g c = subst (λ j. OpIsDueOn g.R.Run.program g.R.Run.settings j c.args.w) (sym c.self.view_is) c.requires.due

pub returns-then-are_off : goal.returns-then-are_off
returns-then-are_off g c = λ h runs.
    let was = subst (λ j. KeepsRun g.R.Run.program g.R.Run.settings j c.self.inside.recorder c.self.inside.waits) c.self.view_is c.self.invariant in
    found_off g.R.Run.program g.R.Run.settings c.args.self.now c.self.inside.recorder c.self.inside.waits was (sym c.are_off.ensures ∙ c.if-are_off.true) h

pub returns : goal.returns
returns g c = λ h runs.
    let was = subst (λ j. KeepsRun g.R.Run.program g.R.Run.settings j c.self.inside.recorder c.self.inside.waits) c.self.view_is c.self.invariant in
    let told = subst (λ j. IsForeseenOn g.R.Run.program g.R.Run.settings j c.args.w c.foresee.result) c.self.view_is c.foresee.ensures in
    c.event.ensures
    ∙ found g.R.Run.program g.R.Run.settings c.args.self.now c.self.inside.recorder c.self.inside.waits was h c.foresee.result (told h runs)
