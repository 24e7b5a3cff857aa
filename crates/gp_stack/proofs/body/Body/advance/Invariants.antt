use Rattle.std.proofs.Common.{◌≡◌, ◌+◌, ◌≤◌}
use Rattle.gp_isa.specs.Trace.{trace}
use Rattle.gp_stack.specs.Goroutine.{local_ahead}
use Rattle.gp_stack.specs.Body.{StandsIn}
use Rattle.gp_stack.proofs.body.Body.advance.Given as goal

abbrev pub invariant-loop-left : goal.invariant-loop-left
invariant-loop-left l = record {
  stands : StandsIn l.program l.self;
  start : l.self.start ≡ l.initial.self.start;
  set : l.self.set ≡ l.initial.self.set;
  count : l.self.count + l.left ≡ l.initial.self.count + l.n;
  ahead : l.left ≤ local_ahead (trace l.program l.self.start) l.self.count;
}

abbrev pub decreases-loop-left : goal.decreases-loop-left
decreases-loop-left l = l.left
