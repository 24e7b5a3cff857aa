-- The sums so far, as they are told.
use Rattle.std.proofs.Common.{◌≡◌, take}
use Rattle.gp_events.specs.Sums.{total_count, total_delay}
use Rattle.gp_top.specs.Files.{capped}
use Rattle.gp_top.proofs.totals.total_waits.Given as goal

abbrev pub invariant-loop-sum : goal.invariant-loop-sum
invariant-loop-sum l = record {
  count : l.all.count ≡ capped (total_count (take l.sum-index l.sums));
  delay : l.all.delay ≡ capped (total_delay (take l.sum-index l.sums));
}
