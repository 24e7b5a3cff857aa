use Rattle.std.proofs.Common.{◌≡◌, take, map, length}
use Rattle.std.specs.List.{flat_map}
use Rattle.gp_wire.specs.Varint.{varint}
use Rattle.gp_wire.proofs.encoding.packed_len.Given as goal

abbrev pub invariant-loop-item : goal.invariant-loop-item
invariant-loop-item g l =
    l.len ≡ length (flat_map varint (map g.T.Word.word (take l.item-index l.items)))
