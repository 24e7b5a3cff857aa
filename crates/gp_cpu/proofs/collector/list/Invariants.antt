use Rattle.std.proofs.Common.{◌≡◌, ◌++◌}
use Rattle.gp_cpu.specs.kept.Counts.{sums_of_entries}
use Rattle.gp_cpu.proofs.collector.list.Given as goal

abbrev pub invariant-loop-key : goal.invariant-loop-key
invariant-loop-key l =
    l.all.items ++ sums_of_entries l.key-iterator ≡ sums_of_entries l.initial.key-iterator
