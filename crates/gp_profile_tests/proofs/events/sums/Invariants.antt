-- Each event adds less than 2^64.
use Rattle.std.proofs.Common.{◌≤◌, ◌*◌, ◌^◌}
use Rattle.gp_events.specs.Sums.{total_count, total_delay}
use Rattle.gp_profile_tests.proofs.events.sums.Given as goal

abbrev pub invariant-loop-row : goal.invariant-loop-row
invariant-loop-row l = record {
  count : total_count l.buckets ≤ 2 ^ 64 * l.row-index;
  delay : total_delay l.buckets ≤ 2 ^ 64 * l.row-index;
}
