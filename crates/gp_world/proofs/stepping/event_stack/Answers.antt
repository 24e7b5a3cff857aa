use Rattle.std.proofs.Common.{take, sym, ap, ◌∙◌, subst}
use Rattle.gp_stack.specs.Body.{progress_of, stack_at}
use Rattle.gp_history.specs.declared.op_event.OpEvent.{OpEvent}
use Rattle.gp_history.specs.Events.{frames_of, AddsEvent}
use Rattle.gp_world.proofs.Stepped.{on_error_so}
use Rattle.gp_world.proofs.stepping.event_stack.Goals as goal

pub returns-in-Nothing-clause-stack : goal.returns-in-Nothing-clause-stack
returns-in-Nothing-clause-stack c = c.new.ensures ∙ sym (ap (λ (e : OpEvent). take (frames_of e) (stack_at c.args.program.now (progress_of c.args.body.now))) c.in-Nothing.is)

pub returns-in-Skipped-clause-stack : goal.returns-in-Skipped-clause-stack
returns-in-Skipped-clause-stack c = c.new-in-Skipped.ensures ∙ sym (ap (λ (e : OpEvent). take (frames_of e) (stack_at c.args.program.now (progress_of c.args.body.now))) c.in-Skipped.is)

pub returns-in-Block-clause-memory : goal.returns-in-Block-clause-memory
returns-in-Block-clause-memory c = on_error_so (AddsEvent c.args.event) c.stack.result (subst AddsEvent (sym c.in-Block.is) tt)

pub returns-in-Mutex-clause-memory : goal.returns-in-Mutex-clause-memory
returns-in-Mutex-clause-memory c = on_error_so (AddsEvent c.args.event) c.stack-in-Mutex.result (subst AddsEvent (sym c.in-Mutex.is) tt)
