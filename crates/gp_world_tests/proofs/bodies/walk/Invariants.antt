-- The body stands in the program, with the label set that it was born with.
use Rattle.std.proofs.Common.{◌≡◌}
use Rattle.gp_stack.specs.Body.{StandsIn}
use Rattle.gp_world_tests.proofs.bodies.walk.Given as goal

abbrev pub invariant-loop-left : goal.invariant-loop-left
invariant-loop-left l = record { stands : StandsIn l.program l.body; set : l.body.set ≡ l.fn.body.set }

abbrev pub decreases-loop-left : goal.decreases-loop-left
decreases-loop-left l = l.left
