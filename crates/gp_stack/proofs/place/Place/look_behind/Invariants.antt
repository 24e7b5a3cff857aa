use Rattle.std.proofs.Common.{◌≤◌, reverse, take, vec_len}
use Rattle.gp_stack.specs.kept.Level.{left}
use Rattle.gp_stack.specs.kept.Place.{levels, stepped, room, Fit}
use Rattle.gp_stack.specs.kept.Looks.{steps}
use Rattle.gp_stack.proofs.Peeks.{Sees}
use Rattle.gp_stack.proofs.place.Place.look_behind.Given as goal

abbrev pub invariant-loop-around : goal.invariant-loop-around
invariant-loop-around l = record {
  few : l.local ≤ l.limit;
  within : l.around ≤ vec_len l.self.outer;
  fit : Fit l.program (room l.program) (reverse (take l.around l.self.outer.items));
  sees : Sees (steps (left l.program (stepped (levels l.self)))) l.limit l.local (steps (left l.program (reverse (take l.around l.self.outer.items))));
}

abbrev pub decreases-loop-around : goal.decreases-loop-around
decreases-loop-around l = l.around
