use Rattle.std.proofs.Common.{◌≤◌, reverse}
use Rattle.gp_stack.specs.kept.Place.{levels, IsHere, IsIn}
use Rattle.gp_stack.specs.kept.Passing.{Passes}
use Rattle.gp_stack.specs.kept.Cost.{cost}
use Rattle.gp_stack.proofs.place.Place.cross.Given as goal

abbrev pub invariant-loop-n : goal.invariant-loop-n
invariant-loop-n l = record {
  place : IsIn l.program l.self;
  here : IsHere l.program l.self.top (reverse l.self.outer.items) l.here;
  passes : Passes l.program (levels l.initial.self) (levels l.self) l.points;
  few : l.points ≤ l.most;
  falls : cost l.program (levels l.self) ≤ cost l.program (levels l.initial.self);
}

abbrev pub decreases-loop-n : goal.decreases-loop-n
decreases-loop-n l = cost l.program (levels l.self)
