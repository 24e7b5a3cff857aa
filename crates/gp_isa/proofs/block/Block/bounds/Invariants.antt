use Rattle.std.proofs.Common.{◌-◌, ◌≤◌}
use Rattle.gp_isa.proofs.block.Block.bounds.Given as goal

abbrev pub invariant-loop-low : goal.invariant-loop-low
invariant-loop-low l = record {
  begin : l.at ≤ l.low;
  within : l.low ≤ l.end;
  some : 1 ≤ l.step;
}

abbrev pub decreases-loop-low : goal.decreases-loop-low
decreases-loop-low l = l.end - l.low
