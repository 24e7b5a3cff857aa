use Rattle.std.proofs.Common.{subst}
use Rattle.gp_history.specs.kept.History.{KeepsRun}
use Rattle.gp_history.proofs.Keeping.{may_come, operated}
use Rattle.gp_history.proofs.history.History.enter_op.Goals as goal

pub note-requires : goal.note-requires
note-requires g c =
    let was = subst (λ j. KeepsRun g.R.Run.program g.R.Run.settings j c.self.inside.recorder c.self.inside.waits) c.self.view_is c.self.invariant in
    may_come g.R.Run.program g.R.Run.settings c.args.self.now c.self.inside.recorder c.self.inside.waits was c.args.g c.args.event c.requires.event

pub invariant_of-self-2 : goal.invariant_of-self-2
invariant_of-self-2 g c =
    let was = subst (λ j. KeepsRun g.R.Run.program g.R.Run.settings j c.self.inside.recorder c.self.inside.waits) c.self.view_is c.self.invariant in
    rw (c.apply.ensures.journal, c.self.view_is, c.in_ok-note.ensures.ok) (operated g.R.Run.program g.R.Run.settings c.args.self.now c.self.inside.recorder c.self.inside.waits was c.args.w c.args.g c.args.event c.args.stack c.requires.may c.requires.event c.requires.stack)
