-- Each seat keeps its number.
use Rattle.std.specs.Prelude.{◌≡◌, map, vec_len}
use Rattle.gp_workers.proofs.seats.round.Given as goal

abbrev pub invariant-loop-k : goal.invariant-loop-k
invariant-loop-k g l = record {
  same : map (λ seat. seat.number) l.seats.items ≡ map (λ seat. seat.number) l.initial.seats.items;
  long : vec_len l.seats ≡ vec_len l.initial.seats;
}
