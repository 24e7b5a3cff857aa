-- The walker stands in the program.
use Rattle.gp_stack.specs.Body.{StandsIn}
use Rattle.gp_body_tests.proofs.bodies.walk_rows.Given as goal

abbrev pub invariant-loop-row : goal.invariant-loop-row
invariant-loop-row l = StandsIn l.program l.walker
