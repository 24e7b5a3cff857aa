-- Those who are back and those who are still to come are all, in their order; those who are back have ended.
use Rattle.std.specs.Prelude.{◌≤◌, ◌+◌, map, vec_capacity}
use Rattle.std.specs.Vec.Iter.{into_iter_items}
use Rattle.gp_workers.specs.Actors.{numbers_of, HaveEnded}
use Rattle.gp_workers.proofs.InOrder.{Splits}
use Rattle.gp_workers.proofs.seats.join_all.Given as goal

abbrev pub invariant-loop-seat : goal.invariant-loop-seat
invariant-loop-seat g l = record {
  splits : Splits (g.R.Run.settings.workers + 2) (numbers_of l.back.items) (map (λ seat. seat.number) (into_iter_items l.seat-iterator));
  ended : HaveEnded g.R.Run.settings l.back.items;
  room : g.R.Run.settings.workers + 2 ≤ vec_capacity l.back;
}
