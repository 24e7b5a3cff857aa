use Rattle.std.proofs.Common.{◌≡◌}
use Rattle.gp_ring_tests.proofs.two.read_all.Given as goal

abbrev pub invariant-loop : goal.invariant-loop
invariant-loop g l = l.reader.ring ≡ l.initial.reader.ring
