use Rattle.std.proofs.Common.{◌≡◌, ◌≤◌, vec_len}
use Rattle.gp_stack.specs.kept.Climb.{frames_left}
use Rattle.gp_stack.proofs.climb.Climb.next.Given as goal

abbrev pub invariant-loop-self : goal.invariant-loop-self
invariant-loop-self l = record {
  within : l.self.level ≤ vec_len l.place.outer;
  same : frames_left l.program l.place l.initial.self ≡ frames_left l.program l.place l.self;
}

abbrev pub decreases-loop-self : goal.decreases-loop-self
decreases-loop-self l = l.self.level
