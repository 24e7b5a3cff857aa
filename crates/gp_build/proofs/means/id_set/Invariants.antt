use Rattle.std.proofs.Common.{◌≡◌, take, map}
use Rattle.gp_build.proofs.means.id_set.Given as goal

abbrev pub invariant-loop-item : goal.invariant-loop-item
invariant-loop-item g l = l.set.keys ≡ map g.M.HasId.id_of (take l.item-index l.items)
