use Rattle.std.proofs.Common.{◌*◌}
use Rattle.gp_stack.proofs.Peeks.{work_more, past_limit}
use Rattle.gp_stack.proofs.peek.look_times.Goals as goal

pub returns-in-None : goal.returns-in-None
returns-in-None c = work_more (c.args.once * c.args.n) c.args.limit (past_limit (c.args.once * c.args.n) c.args.limit (λ fits. c.in-None.ensures fits) c.ranges.limit.fits)
