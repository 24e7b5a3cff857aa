use Rattle.std.proofs.Common.{◌≤◌, ◌+◌, cond, reverse}
use Rattle.std.specs.Bool.{OnTrue}
use Rattle.gp_stack.specs.kept.Place.{levels, IsIn, IsSettled}
use Rattle.gp_stack.specs.kept.Passing.{Passes}
use Rattle.gp_stack.specs.kept.Cost.{cost}
use Rattle.gp_stack.proofs.place.Place.go_on.Given as goal

abbrev pub invariant-loop-settled : goal.invariant-loop-settled
invariant-loop-settled l = record {
  place : IsIn l.program l.self;
  passes : Passes l.program (levels l.initial.self) (levels l.self) l.passed;
  few : l.passed ≤ l.most;
  settled : OnTrue l.settled (IsSettled l.program l.self.top (reverse l.self.outer.items));
}

abbrev pub decreases-loop-settled : goal.decreases-loop-settled
decreases-loop-settled l = cond l.settled 0 (cost l.program (levels l.self) + 1)
