-- The body stands in the program.
use Rattle.gp_stack.specs.Body.{StandsIn}
use Rattle.gp_body_tests.proofs.bodies.walk.Given as goal

abbrev pub invariant-loop-left : goal.invariant-loop-left
invariant-loop-left l = StandsIn l.program l.body

abbrev pub decreases-loop-left : goal.decreases-loop-left
decreases-loop-left l = l.left
