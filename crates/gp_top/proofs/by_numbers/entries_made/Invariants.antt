-- Each actor so far has its number of entries.
use Rattle.std.proofs.Common.{◌≡◌, ◌≤◌, ◌+◌, map}
use Rattle.std.specs.List.{range_with_len}
use Rattle.gp_journal.specs.Actors.{made_by}
use Rattle.gp_top.proofs.by_numbers.entries_made.Given as goal

abbrev pub invariant-loop-actor : goal.invariant-loop-actor
invariant-loop-actor g l = record {
  so_far : l.made.items ≡ map (λ actor. made_by g.R.Run.settings actor l.machine) (range_with_len 0 l.actor);
  within : l.actor ≤ l.settings.workers + 1;
}
