-- Those who have a seat and those who haven't yet are all, in their order.
use Rattle.std.specs.Prelude.{◌≡◌, ◌≤◌, ◌+◌, [], length, map, vec_capacity}
use Rattle.std.specs.Vec.Iter.{into_iter_items}
use Rattle.gp_workers.specs.Actors.{numbers_of}
use Rattle.gp_workers.proofs.InOrder.{Splits}
use Rattle.gp_workers.proofs.seats.fn.play_all.scope.Given as goal

abbrev pub invariant-loop-actor : goal.invariant-loop-actor
invariant-loop-actor g l = record {
  splits : Splits (g.R.Run.settings.workers + 2) (map (λ seat. seat.number) l.seats.items) (numbers_of (into_iter_items l.actor-iterator));
  room : g.R.Run.settings.workers + 2 ≤ vec_capacity l.seats;
  none : l.back.items ≡ [];
  back_room : g.R.Run.settings.workers + 2 ≤ vec_capacity l.back;
}
