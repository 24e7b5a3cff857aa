use Rattle.std.proofs.Common.{length}
use Rattle.gp_ring_tests.proofs.OfEndsTeller.tell.Given as goal

abbrev pub decreases-loop-row : goal.decreases-loop-row
decreases-loop-row l = length l.rest
