use Rattle.std.proofs.Common.{◌∙◌}
use Rattle.gp_isa.proofs.Sizes.{size_of-repeated, size_of-repeated_none}
use Rattle.gp_isa.proofs.size.Size.repeated.Goals as goal

pub returns : goal.returns
returns c points here = size_of-repeated c.args.n points c.args.self here _ (cc) c.if-n-eq0.false _ c.before_times.ensures

pub returns-then-n-eq0 : goal.returns-then-n-eq0
returns-then-n-eq0 c points here = c.none.ensures ∙ size_of-repeated_none points c.args.n c.if-n-eq0.true
