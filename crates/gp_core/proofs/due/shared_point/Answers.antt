use Rattle.gp_stack.specs.Body.{progress_of}
use Rattle.gp_core.proofs.Along.{point_found, none_local, none_over}
use Rattle.gp_core.proofs.due.shared_point.Goals as goal

pub returns : goal.returns
returns g c =
    point_found g.R.Run.program g.R.Run.settings c.args.machine.now c.journal.ensures.legal c.requires.range c.args.w c.args.g (progress_of c.args.body.now) c.args.peek c.in-Shared.operation c.labels.result
    c.requires.place c.requires.may c.requires.peek c.in-Shared.is (c.labels.ensures g.R.Run.program c.requires.stands)

pub unreachable-requires : goal.unreachable-requires
unreachable-requires g c =
    none_local g.R.Run.program g.R.Run.settings c.args.machine.now c.journal.ensures.legal c.requires.range c.args.w c.args.g (progress_of c.args.body.now) c.args.peek
    c.requires.place c.requires.may c.requires.peek c.in-Local.is

pub unreachable-requires-in-Over : goal.unreachable-requires-in-Over
unreachable-requires-in-Over g c =
    none_over g.R.Run.program g.R.Run.settings c.args.machine.now c.journal.ensures.legal c.requires.range c.args.w c.args.g (progress_of c.args.body.now) c.args.peek
    c.requires.place c.requires.may c.requires.peek c.in-Over.is
