use Rattle.gp_cpu.proofs.Sampling.{samples_begin, samples_grow, samples_worked_out}
use Rattle.gp_cpu.proofs.laws.law_samples.Goals as goal

pub returns-clause-begin : goal.returns-clause-begin
returns-clause-begin c = samples_begin

pub returns-clause-grow : goal.returns-clause-grow
returns-clause-grow c = samples_grow

pub returns-clause-worked : goal.returns-clause-worked
returns-clause-worked c = samples_worked_out
