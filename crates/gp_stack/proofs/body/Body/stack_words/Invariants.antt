use Rattle.std.proofs.Common.{◌≡◌, ◌≤◌, ◌-◌, length, vec_len, take, drop, map}
use Rattle.gp_stack.specs.kept.Climb.{frames_left}
use Rattle.gp_stack.specs.Word.{word_of}
use Rattle.gp_stack.proofs.Stands.{frames_of}
use Rattle.gp_stack.proofs.body.Body.stack_words.Given as goal

abbrev pub invariant-loop-written : goal.invariant-loop-written
invariant-loop-written l = record {
  few : l.written ≤ length l.to;
  there : l.written ≤ length (frames_of l.program l.self.place);
  words : take l.written l.to ≡ map word_of (take l.written (frames_of l.program l.self.place));
  left : drop l.written (frames_of l.program l.self.place) ≡ frames_left l.program l.self.place l.climb;
  rest : drop l.written l.to ≡ drop l.written l.fn.to;
  within : l.climb.level ≤ vec_len l.self.place.outer;
}

abbrev pub decreases-loop-written : goal.decreases-loop-written
decreases-loop-written l = length l.initial.to - l.written
