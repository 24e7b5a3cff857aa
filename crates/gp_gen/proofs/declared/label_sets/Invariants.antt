use Rattle.std.proofs.Common.{◌≡◌}
use Rattle.gp_gen.specs.Generated.{each_below, label_set_of}
use Rattle.gp_gen.proofs.declared.label_sets.Given as goal

abbrev pub invariant-loop-j : goal.invariant-loop-j
invariant-loop-j l = l.all ≡ each_below label_set_of l.j
