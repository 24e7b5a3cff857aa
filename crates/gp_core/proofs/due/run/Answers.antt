use Rattle.std.proofs.Common.{◌≤◌, sym, subst}
use Rattle.gp_isa.specs.declared.parts.Parts.{Parts}
use Rattle.gp_stack.specs.Body.{progress_of, ahead_at}
use Rattle.gp_core.proofs.Along.{is_ahead}
use Rattle.gp_core.proofs.due.run.Goals as goal

pub advance-requires-clause-ahead : goal.advance-requires-clause-ahead
advance-requires-clause-ahead g c =
    let place = progress_of c.args.body.now in
    subst (λ (p : Parts). c.args.n ≤ ahead_at p place) (sym c.requires.program)
    (is_ahead g.R.Run.program g.R.Run.settings c.args.machine.now c.journal.ensures.legal c.requires.range c.args.w c.args.g place c.args.n c.requires.place c.requires.may)
