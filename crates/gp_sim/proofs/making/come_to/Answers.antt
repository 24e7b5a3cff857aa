use Rattle.std.proofs.Common.{◌≡◌, ℕ, Some, sym, ◌∙◌, subst}
use Rattle.std.proofs.lemmas.Option.{same_Some}
use Rattle.gp_stack.specs.Peek.{operation_of}
use Rattle.gp_journal.specs.State.{code_of}
use Rattle.gp_journal.specs.Due.{next_instruction}
use Rattle.gp_journal.specs.Run.{state_of}
use Rattle.gp_journal.specs.May.{IsDue}
use Rattle.gp_journal.specs.declared.entry.Entry.TheVariants.{Op}
use Rattle.gp_sim.proofs.making.come_to.Goals as goal

pub foresee-event-requires-clause-due : goal.foresee-event-requires-clause-due
foresee-event-requires-clause-due g c = λ h runs.
    subst (λ (h : ℕ). IsDue (code_of g.R.Run.program) g.R.Run.settings (state_of g.R.Run.program g.R.Run.settings c.args.history.now) c.args.w h (Op c.args.w h))
    (same_Some c.args.g h (sym c.requires.may.runs ∙ runs)) c.requires.may

pub foresee-event-requires-clause-operation : goal.foresee-event-requires-clause-operation
foresee-event-requires-clause-operation g c = λ h runs.
    subst (λ (h : ℕ). operation_of (next_instruction (code_of g.R.Run.program) (state_of g.R.Run.program g.R.Run.settings c.args.history.now) h) ≡ Some c.args.point.operation)
    (same_Some c.args.g h (sym c.requires.may.runs ∙ runs)) c.requires.point.operation
