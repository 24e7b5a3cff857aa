use Rattle.std.proofs.Common.{◌≡◌, [], length}
use Rattle.std.specs.Prelude.{fold, map}
use Rattle.std.specs.Vec.Iter.{into_iter_items, into_iter_len}
use Rattle.gp_labels.specs.LabelSet.{with_pair}
use Rattle.gp_labels.specs.Entry.{pair_of_entry}
use Rattle.gp_labels.proofs.ordering.values.Given as goal

abbrev pub invariant-loop-pair : goal.invariant-loop-pair
invariant-loop-pair l = record {
  ahead : fold with_pair (map pair_of_entry l.values.entries) (into_iter_items l.pair-iterator) ≡ fold with_pair [] (into_iter_items l.initial.pair-iterator);
  count : into_iter_len l.pair-iterator ≡ length (into_iter_items l.pair-iterator);
}
