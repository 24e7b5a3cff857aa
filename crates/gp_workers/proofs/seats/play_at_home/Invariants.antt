-- Each seat keeps its number.
use Rattle.std.specs.Prelude.{◌≡◌, map}
use Rattle.gp_workers.proofs.seats.play_at_home.Given as goal

abbrev pub invariant-loop : goal.invariant-loop
invariant-loop g l = map (λ seat. seat.number) l.seats.items ≡ map (λ seat. seat.number) l.initial.seats.items
