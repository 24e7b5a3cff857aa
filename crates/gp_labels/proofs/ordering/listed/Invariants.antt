use Rattle.std.proofs.Common.{◌≡◌, ◌++◌}
use Rattle.std.specs.Prelude.{map}
use Rattle.gp_labels.specs.Entry.{pair_of_entry}
use Rattle.gp_labels.proofs.ordering.listed.Given as goal

abbrev pub invariant-loop-key : goal.invariant-loop-key
invariant-loop-key l = l.pairs ++ map pair_of_entry l.key-iterator ≡ map pair_of_entry l.initial.key-iterator
