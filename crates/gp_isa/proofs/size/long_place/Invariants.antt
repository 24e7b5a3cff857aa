-- No trace so far is too long.
use Rattle.std.proofs.Common.{◌≡◌, ℕ, ◌<◌, [], false, get_or, nat_lt}
use Rattle.gp_isa.specs.Limits.{most_points}
use Rattle.gp_isa.specs.kept.Sizes.{size_of}
use Rattle.gp_isa.proofs.size.long_place.Given as goal

abbrev pub invariant-loop-f : goal.invariant-loop-f
invariant-loop-f l = (k : ℕ) → k < l.f → nat_lt most_points (get_or l.sizes k (size_of [])).points ≡ false
