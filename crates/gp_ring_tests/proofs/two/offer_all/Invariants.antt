use Rattle.std.proofs.Common.{◌≡◌}
use Rattle.gp_ring_tests.specs.Driving.{numbered}
use Rattle.gp_ring_tests.proofs.two.offer_all.Given as goal

abbrev pub invariant-loop-number : goal.invariant-loop-number
invariant-loop-number g l = record { ring : l.writer.ring ≡ l.initial.writer.ring; offers : l.writer.offers ≡ numbered l.number }
