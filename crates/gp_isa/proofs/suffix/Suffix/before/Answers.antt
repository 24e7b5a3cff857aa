use Rattle.gp_isa.proofs.Blocks.{suffix_before}
use Rattle.gp_isa.proofs.suffix.Suffix.before.Goals as goal

pub returns-clause-sums : goal.returns-clause-sums
returns-clause-sums c calls deep s body is of = suffix_before calls deep s body c.args.self c.args.here _ _ _ _ c.args.inner is of (cc) (cc) c.one_more.ensures c.one_more-2.ensures
