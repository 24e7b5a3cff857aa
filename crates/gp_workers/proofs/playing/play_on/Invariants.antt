-- The player stays the same actor.
use Rattle.std.specs.Prelude.{◌≡◌}
use Rattle.gp_workers.proofs.playing.play_on.Given as goal

abbrev pub invariant-loop : goal.invariant-loop
invariant-loop g l = l.player.actor.number ≡ l.initial.player.actor.number
