use Rattle.gp_gen.proofs.Limits.{in_limits}
use Rattle.gp_gen.proofs.Passing.{generated_is_program}
use Rattle.gp_gen.proofs.generator.law_generated.Goals as goal

pub returns-clause-limits : goal.returns-clause-limits
returns-clause-limits c = in_limits

pub returns-clause-checked : goal.returns-clause-checked
returns-clause-checked c = generated_is_program
