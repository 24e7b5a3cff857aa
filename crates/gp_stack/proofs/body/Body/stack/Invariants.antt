use Rattle.std.proofs.Common.{◌≡◌, ◌≤◌, ◌-◌, ◌++◌, length, vec_len}
use Rattle.gp_stack.specs.kept.Climb.{frames_left}
use Rattle.gp_stack.proofs.Stands.{frames_of}
use Rattle.gp_stack.proofs.body.Body.stack.Given as goal

abbrev pub invariant-loop-climb : goal.invariant-loop-climb
invariant-loop-climb l = record {
  few : length l.frames.items ≤ l.max;
  shown : l.frames.items ++ frames_left l.program l.self.place l.climb ≡ frames_of l.program l.self.place;
  within : l.climb.level ≤ vec_len l.self.place.outer;
}

abbrev pub decreases-loop-climb : goal.decreases-loop-climb
decreases-loop-climb l = l.max - vec_len l.frames
