use Rattle.std.proofs.Common.{◌≡◌, ◌≤◌}
use Rattle.gp_stack.specs.kept.Place.{levels, IsIn}
use Rattle.gp_stack.specs.kept.Level.{left}
use Rattle.gp_stack.specs.kept.Cost.{cost}
use Rattle.gp_stack.proofs.place.Place.leave_all.Given as goal

abbrev pub invariant-loop : goal.invariant-loop
invariant-loop l = record {
  place : IsIn l.program l.self;
  same : left l.program (levels l.self) ≡ left l.program (levels l.initial.self);
  less : cost l.program (levels l.self) ≤ cost l.program (levels l.initial.self);
}

abbrev pub decreases-loop : goal.decreases-loop
decreases-loop l = cost l.program (levels l.self)
