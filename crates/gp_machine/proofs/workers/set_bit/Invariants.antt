-- As many of the lowest set bits are cleared as were counted.
use Rattle.std.proofs.Common.{◌-◌, ◌≤◌}
use Rattle.gp_machine.proofs.SetBits.{IsLeft}
use Rattle.gp_machine.proofs.workers.set_bit.Given as goal

abbrev pub invariant-loop-left : goal.invariant-loop-left
invariant-loop-left l = record {
  counted : l.left ≤ l.count;
  is_left : IsLeft l.word l.rest (l.count - l.left);
}

abbrev pub decreases-loop-left : goal.decreases-loop-left
decreases-loop-left l = l.left
