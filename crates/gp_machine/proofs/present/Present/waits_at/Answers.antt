use Rattle.std.proofs.Common.{◌<◌, length, Some, sym, ap, ◌∙◌, subst}
use Rattle.gp_stack.specs.declared.statement.Operation.TheVariants as operation
use Rattle.gp_journal.specs.State.{State}
use Rattle.gp_machine.proofs.Acting.{is_there}
use Rattle.gp_machine.proofs.present.Present.waits_at.Goals as goal

pub send-requires-clause-there : goal.send-requires-clause-there
send-requires-clause-there g c =
    let fits = c.self.invariant.0 in
    subst (λ (s : State). c.in-Send.c < length s.channels) (sym c.self.view_is)
    (is_there g.R.Run.program g.R.Run.settings c.args.self.now c.requires.reached fits.in_range c.args.g (operation.Send c.in-Send.c) fits.in_limits (c.requires.point ∙ ap Some c.in-Send.is))

pub recv-requires-clause-there : goal.recv-requires-clause-there
recv-requires-clause-there g c =
    let fits = c.self.invariant.0 in
    subst (λ (s : State). c.in-Recv.c < length s.channels) (sym c.self.view_is)
    (is_there g.R.Run.program g.R.Run.settings c.args.self.now c.requires.reached fits.in_range c.args.g (operation.Recv c.in-Recv.c) fits.in_limits (c.requires.point ∙ ap Some c.in-Recv.is))

pub lock-requires-clause-there : goal.lock-requires-clause-there
lock-requires-clause-there g c =
    let fits = c.self.invariant.0 in
    subst (λ (s : State). c.in-Lock.m < length s.mutexes) (sym c.self.view_is)
    (is_there g.R.Run.program g.R.Run.settings c.args.self.now c.requires.reached fits.in_range c.args.g (operation.Lock c.in-Lock.m) fits.in_limits (c.requires.point ∙ ap Some c.in-Lock.is))

pub unlock-requires : goal.unlock-requires
unlock-requires g c =
    let fits = c.self.invariant.0 in
    subst (λ (s : State). c.in-Unlock.m < length s.mutexes) (sym c.self.view_is)
    (is_there g.R.Run.program g.R.Run.settings c.args.self.now c.requires.reached fits.in_range c.args.g (operation.Unlock c.in-Unlock.m) fits.in_limits (c.requires.point ∙ ap Some c.in-Unlock.is))
