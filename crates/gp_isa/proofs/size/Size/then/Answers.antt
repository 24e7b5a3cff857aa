use Rattle.gp_isa.proofs.Sizes.{size_of-append}
use Rattle.gp_isa.proofs.size.Size.then.Goals as goal

pub returns : goal.returns
returns c points more here next = size_of-append points more _ _ here next _ _ _ _ (cc) (cc) (cc) (cc) _ _ c.before_next.ensures c.first_next.ensures
