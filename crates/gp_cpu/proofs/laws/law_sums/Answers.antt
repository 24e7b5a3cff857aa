use Rattle.gp_cpu.proofs.Growing.{sums_begin, sums_grow, sums_are_shares}
use Rattle.gp_cpu.proofs.laws.law_sums.Goals as goal

pub returns-clause-begin : goal.returns-clause-begin
returns-clause-begin c = sums_begin

pub returns-clause-grow : goal.returns-clause-grow
returns-clause-grow c = sums_grow

pub returns-clause-shares : goal.returns-clause-shares
returns-clause-shares c = sums_are_shares
