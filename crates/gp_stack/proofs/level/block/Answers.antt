use Rattle.gp_stack.proofs.Levels.{body_base}
use Rattle.gp_stack.proofs.level.block.Goals as goal

pub returns-then-level-eq-LOOPS-clause-statements : goal.returns-then-level-eq-LOOPS-clause-statements
returns-then-level-eq-LOOPS-clause-statements c = rw c.block.ensures.statements (body_base c.args.program.now c.args.level c.args.outer.now c.if-level-eq-LOOPS.true)
