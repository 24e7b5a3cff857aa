use Rattle.std.proofs.Common.{◌≡◌, ◌++◌}
use Rattle.gp_wire.specs.Varint.{varint}
use Rattle.gp_wire.proofs.encoding.put_varint.Given as goal

abbrev pub invariant-loop-left : goal.invariant-loop-left
invariant-loop-left l = l.out.items ++ varint l.left ≡ l.initial.out.items ++ varint l.value

abbrev pub decreases-loop-left : goal.decreases-loop-left
decreases-loop-left l = l.left
