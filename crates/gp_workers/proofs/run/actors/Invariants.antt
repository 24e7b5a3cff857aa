-- Those who have their share and those who haven't yet are all, in their order; each share that is left is of the book, and new.
use Rattle.std.specs.Prelude.{◌≡◌, ◌≤◌, ◌+◌, map, vec_capacity}
use Rattle.std.specs.List.{AllByRecursion}
use Rattle.std.specs.Vec.Iter.{into_iter_items}
use Rattle.gp_tally.specs.Rows.{Part}
use Rattle.gp_world.specs.Rows.{blank}
use Rattle.gp_workers.specs.Actors.{numbers_of}
use Rattle.gp_workers.proofs.InOrder.{Splits}
use Rattle.gp_workers.proofs.run.actors.Given as goal

abbrev pub invariant-loop-share : goal.invariant-loop-share
invariant-loop-share g l = record {
  splits : Splits (g.R.Run.settings.workers + 1) (numbers_of l.actors.items) (map (λ (s : Part). s.number) (into_iter_items l.share-iterator));
  each : AllByRecursion (λ (s : Part). (s.book ≡ g.K.Naming.book) × (s.row ≡ blank)) (into_iter_items l.share-iterator);
  room : g.R.Run.settings.workers + 2 ≤ vec_capacity l.actors;
}
