use Rattle.std.proofs.Common.{◌≡◌, ◌++◌}
use Rattle.gp_events.specs.kept.Buckets.{sums_of_entries}
use Rattle.gp_events.proofs.buckets.Buckets.list.Given as goal

abbrev pub invariant-loop-stack : goal.invariant-loop-stack
invariant-loop-stack l =
    l.all.items ++ sums_of_entries l.stack-iterator ≡ sums_of_entries l.initial.stack-iterator
