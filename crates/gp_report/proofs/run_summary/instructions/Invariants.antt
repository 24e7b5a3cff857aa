use Rattle.std.proofs.Common.{◌≡◌, ◌≤◌, ◌*◌, take}
use Rattle.std.specs.List.{sum}
use Rattle.gp_report.proofs.run_summary.instructions.Given as goal

-- The sum so far, which is small.
abbrev pub invariant-loop-count : goal.invariant-loop-count
invariant-loop-count l = record {
  so_far : l.all ≡ sum (take l.count-index l.done);
  small : l.all ≤ l.count-index * 18446744073709551615;
}
