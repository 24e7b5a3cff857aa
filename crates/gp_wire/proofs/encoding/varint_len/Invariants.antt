use Rattle.std.proofs.Common.{◌≡◌, ◌+◌, ◌≤◌, length}
use Rattle.gp_wire.specs.Varint.{varint}
use Rattle.gp_wire.proofs.encoding.varint_len.Given as goal

abbrev pub invariant-loop-left : goal.invariant-loop-left
invariant-loop-left l =
    (l.len + length (varint l.left) ≡ length (varint l.value) + 1) × (l.len + l.left ≤ l.value + 1)

abbrev pub decreases-loop-left : goal.decreases-loop-left
decreases-loop-left l = l.left
