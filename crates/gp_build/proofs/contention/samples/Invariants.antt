use Rattle.std.proofs.Common.{◌≡◌, take, map}
use Rattle.gp_build.specs.Contention.{sample_of_sum}
use Rattle.gp_build.proofs.contention.samples.Given as goal

abbrev pub invariant-loop-sum : goal.invariant-loop-sum
invariant-loop-sum l =
    l.samples.items ≡ map sample_of_sum (take l.sum-index l.sums)
