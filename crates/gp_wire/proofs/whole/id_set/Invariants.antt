use Rattle.std.proofs.Common.{◌≡◌, false, take, map}
use Rattle.gp_wire.specs.Valid.{bad_ids}
use Rattle.gp_wire.proofs.whole.id_set.Given as goal

-- The ids so far are in the set, in their order, and are fine.
abbrev pub invariant-loop-item : goal.invariant-loop-item
invariant-loop-item g l =
    (l.set.keys ≡ map g.M.HasId.id_of (take l.item-index l.items)) × (bad_ids (map g.M.HasId.id_of (take l.item-index l.items)) ≡ false)
