use Rattle.std.proofs.Common.{◌≡◌}
use Rattle.gp_gen.specs.Generated.{each_below, spawn_of}
use Rattle.gp_gen.proofs.functions.spawns.Given as goal

abbrev pub invariant-loop-j : goal.invariant-loop-j
invariant-loop-j l = l.body ≡ each_below spawn_of l.j
