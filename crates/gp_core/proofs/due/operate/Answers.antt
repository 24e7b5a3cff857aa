use Rattle.std.proofs.Common.{sym, subst}
use Rattle.gp_isa.specs.declared.parts.Parts.{Parts}
use Rattle.gp_isa.specs.Trace.{trace}
use Rattle.gp_stack.specs.Body.{progress_of, IsAtShared}
use Rattle.gp_core.proofs.Along.{is_at_shared}
use Rattle.gp_core.proofs.due.operate.Goals as goal

pub pass-requires-clause-shared : goal.pass-requires-clause-shared
pass-requires-clause-shared g c =
    let place = progress_of c.args.body.now in
    subst (λ (p : Parts). IsAtShared (trace p place.start) place.count) (sym c.requires.program)
    (is_at_shared g.R.Run.program g.R.Run.settings c.args.machine.now c.journal.ensures.legal c.requires.range c.args.w c.args.g place c.requires.place c.requires.may)

pub pass-requires-in-Bears-clause-shared : goal.pass-requires-in-Bears-clause-shared
pass-requires-in-Bears-clause-shared g c =
    let place = progress_of c.args.body.now in
    subst (λ (p : Parts). IsAtShared (trace p place.start) place.count) (sym c.requires.program)
    (is_at_shared g.R.Run.program g.R.Run.settings c.args.machine.now c.journal.ensures.legal c.requires.range c.args.w c.args.g place c.requires.place c.requires.may)
