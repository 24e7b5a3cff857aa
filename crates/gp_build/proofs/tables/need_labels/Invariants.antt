use Rattle.std.proofs.Common.{◌≡◌, take}
use Rattle.std.specs.List.{flat_map}
use Rattle.gp_build.specs.Numbers.{label_needs}
use Rattle.gp_build.specs.kept.Tables.{with_needs}
use Rattle.gp_build.proofs.tables.need_labels.Given as goal

abbrev pub invariant-loop-pair : goal.invariant-loop-pair
invariant-loop-pair l =
    l.strings.keys ≡ with_needs l.initial.strings.keys (flat_map label_needs (take l.pair-index l.labels))
