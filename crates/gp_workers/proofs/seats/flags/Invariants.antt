-- There are as many flags as rounds, and room for all.
use Rattle.std.specs.Prelude.{◌≡◌, ◌≤◌, vec_len, vec_capacity}
use Rattle.gp_workers.proofs.seats.flags.Given as goal

abbrev pub invariant-loop : goal.invariant-loop
invariant-loop l = record { long : vec_len l.flags ≡ l.counter; room : l.actors ≤ vec_capacity l.flags }
