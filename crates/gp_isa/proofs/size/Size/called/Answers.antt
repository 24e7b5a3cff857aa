use Rattle.gp_isa.proofs.Sizes.{size_of-called}
use Rattle.gp_isa.proofs.size.Size.called.Goals as goal

pub returns-else-self-eq0 : goal.returns-else-self-eq0
returns-else-self-eq0 c points f line here = size_of-called f line points c.args.self here c.if-self-eq0.false
