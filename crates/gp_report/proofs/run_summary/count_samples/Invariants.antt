use Rattle.std.proofs.Common.{◌≡◌, ◌≤◌, ◌*◌, take}
use Rattle.std.specs.List.{sum_by}
use Rattle.gp_report.specs.Summary.{delivered_by, lost_by}
use Rattle.gp_report.proofs.run_summary.count_samples.Given as goal

-- The sums so far, which are small.
abbrev pub invariant-loop-it : goal.invariant-loop-it
invariant-loop-it l = record {
  delivered : l.all.delivered ≡ sum_by delivered_by (take l.it-index l.records);
  lost : l.all.lost ≡ sum_by lost_by (take l.it-index l.records);
  few : l.all.delivered ≤ l.it-index;
  small : l.all.lost ≤ l.it-index * 18446744073709551615;
}
