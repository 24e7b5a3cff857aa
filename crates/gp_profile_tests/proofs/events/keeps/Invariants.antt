-- The fraction stays.
use Rattle.std.proofs.Common.{◌<◌}
use Rattle.gp_profile_tests.proofs.events.keeps.Given as goal

abbrev pub invariant-loop-k : goal.invariant-loop-k
invariant-loop-k l = 0 < l.fraction.f
