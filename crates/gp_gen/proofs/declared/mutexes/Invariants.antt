use Rattle.std.proofs.Common.{◌≡◌}
use Rattle.gp_gen.specs.Generated.{each_below, mutex_of}
use Rattle.gp_gen.proofs.declared.mutexes.Given as goal

abbrev pub invariant-loop-m : goal.invariant-loop-m
invariant-loop-m l = l.all ≡ each_below mutex_of l.m
