-- What was noted, and what is to be noted of those who are left, is all.
use Rattle.std.specs.Prelude.{◌≡◌, ◌<◌, ◌≤◌, ◌+◌, ◌++◌, map, vec_len, vec_capacity}
use Rattle.std.specs.List.{AllByRecursion, range_with_len}
use Rattle.std.specs.Vec.Iter.{into_iter_items, into_iter_len}
use Rattle.gp_journal.specs.Run.{state_of}
use Rattle.gp_journal.specs.Told.{done_of}
use Rattle.gp_workers.specs.Actors.{numbers_of}
use Rattle.gp_workers.specs.kept.Ending.{done_in, made_in}
use Rattle.gp_workers.proofs.run.count.Given as goal

abbrev pub invariant-loop-worker : goal.invariant-loop-worker
invariant-loop-worker g l =
    let program = g.R.Run.program in let settings = g.R.Run.settings in let journal = l.initial.world.journal in let rest = into_iter_items l.worker-iterator in
    record {
      same : l.world ≡ l.initial.world;
      done : l.tally.done.items ++ map (done_in program settings journal) (numbers_of rest) ≡ done_of (state_of program settings journal);
      made : l.tally.made.items ++ map (made_in settings journal) (numbers_of rest) ≡ map (made_in settings journal) (range_with_len 0 settings.workers);
      low : AllByRecursion (λ n. n < settings.workers) (numbers_of rest);
      done_room : vec_len l.tally.done + into_iter_len l.worker-iterator ≤ vec_capacity l.tally.done;
      made_room : vec_len l.tally.made + into_iter_len l.worker-iterator + 1 ≤ vec_capacity l.tally.made;
    }
