use Rattle.std.proofs.Common.{◌≡◌, take, map}
use Rattle.gp_build.specs.Meant.{kind_meant}
use Rattle.gp_build.proofs.means.kinds.Given as goal

abbrev pub invariant-loop-item : goal.invariant-loop-item
invariant-loop-item l = l.meant ≡ map (kind_meant l.strings) (take l.item-index l.types)
