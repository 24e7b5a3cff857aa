use Rattle.gp_isa.proofs.Sizes.{size_of-point}
use Rattle.gp_isa.proofs.size.Size.shared.Goals as goal

pub returns : goal.returns
returns c f line instruction is = size_of-point f line instruction c.args.first is
