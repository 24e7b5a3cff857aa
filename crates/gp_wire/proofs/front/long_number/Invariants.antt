use Rattle.std.proofs.Common.{◌≡◌, ◌-◌, ◌^◌, ◌<◌}
use Rattle.gp_wire.specs.Front.{groups_at}
use Rattle.gp_wire.proofs.GroupLemmas.{with_low}
use Rattle.gp_wire.proofs.front.long_number.Given as goal

abbrev pub invariant-loop : goal.invariant-loop
invariant-loop l = record {
  scale : l.scale ≡ 128 ^ l.counter;
  low : l.low < l.scale;
  read : with_low l.low l.scale (groups_at (9 - l.counter) l.rest) ≡ groups_at 9 l.bytes;
}
