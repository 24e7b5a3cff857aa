use Rattle.std.proofs.Common.{◌-◌, ◌≤◌}
use Rattle.gp_isa.proofs.block.Block.last_within.Given as goal

abbrev pub invariant-loop-low : goal.invariant-loop-low
invariant-loop-low l = record {
  begin : l.at ≤ l.low;
  between : l.low ≤ l.high;
  end : l.high ≤ l.end;
}

abbrev pub decreases-loop-low : goal.decreases-loop-low
decreases-loop-low l = l.high - l.low
