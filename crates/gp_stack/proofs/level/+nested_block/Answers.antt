use Rattle.gp_stack.proofs.Levels.{body_outermost, body_base, body_loop}
use Rattle.gp_stack.proofs.level.+nested_block.Goals as goal

pub returns-in-None-clause-statements : goal.returns-in-None-clause-statements
returns-in-None-clause-statements t c = rw c.block.ensures.statements (body_outermost _ _ _ c.in-None.ensures.cases)

pub returns-then-level-eq-LOOPS-clause-statements : goal.returns-then-level-eq-LOOPS-clause-statements
returns-then-level-eq-LOOPS-clause-statements t c = rw c.block-then-level-eq-LOOPS.ensures.statements (body_base c.args.program.now c.args.level c.args.outer.now c.if-level-eq-LOOPS.true)

pub returns-else-level-eq-LOOPS-clause-statements : goal.returns-else-level-eq-LOOPS-clause-statements
returns-else-level-eq-LOOPS-clause-statements t c =
    rw (c.inside.ensures.statements, c.nested_block.ensures.statements, c.saturating_sub.ensures) (body_loop _ _ _ _ _ c.in-Some.ensures.cases.0 c.if-level-eq-LOOPS.false)
