use Rattle.std.proofs.Common.{◌≡◌, take, map}
use Rattle.gp_build.specs.Cpu.{sample_of_cpu_sum}
use Rattle.gp_build.proofs.cpu.samples.Given as goal

abbrev pub invariant-loop-sum : goal.invariant-loop-sum
invariant-loop-sum l =
    l.samples.items ≡ map (sample_of_cpu_sum l.period) (take l.sum-index l.sums)
