use Rattle.std.proofs.Common.{◌≡◌, take}
use Rattle.std.specs.List.{flat_map}
use Rattle.gp_build.specs.Numbers.{kind_needs}
use Rattle.gp_build.specs.kept.Tables.{with_needs}
use Rattle.gp_build.proofs.tables.need_kinds.Given as goal

abbrev pub invariant-loop-kind : goal.invariant-loop-kind
invariant-loop-kind l =
    l.strings.keys ≡ with_needs l.initial.strings.keys (flat_map kind_needs (take l.kind-index l.kinds))
