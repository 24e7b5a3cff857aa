use Rattle.std.proofs.Common.{refl}
use Rattle.gp_isa.proofs.Walks.{walked_none}
use Rattle.gp_isa.proofs.walk.begin.Goals as goal

pub returns : goal.returns
returns c = walked_none c.args.parts.now _ c.in_ok-sizes.ensures c.in_ok-bases.ensures refl
