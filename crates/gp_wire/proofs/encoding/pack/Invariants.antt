use Rattle.std.proofs.Common.{◌≡◌, ◌++◌, take, map}
use Rattle.std.specs.List.{flat_map}
use Rattle.gp_wire.specs.Varint.{varint}
use Rattle.gp_wire.proofs.encoding.pack.Given as goal

abbrev pub invariant-loop-item : goal.invariant-loop-item
invariant-loop-item g l =
    l.out.items ≡ l.initial.out.items ++ flat_map varint (map g.T.Word.word (take l.item-index l.items))
