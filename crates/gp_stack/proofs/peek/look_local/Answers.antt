use Rattle.gp_stack.proofs.Peeks.{work_more, work_all}
use Rattle.gp_stack.proofs.peek.look_local.Goals as goal

pub returns-then-limit-n-clause-finds : goal.returns-then-limit-n-clause-finds
returns-then-limit-n-clause-finds c = work_more c.args.n c.args.limit c.if-limit-n.true

pub returns-else-limit-n-clause-finds : goal.returns-else-limit-n-clause-finds
returns-else-limit-n-clause-finds c = work_all c.args.n c.args.limit c.if-limit-n.false
