-- What a goroutine profile has of a goroutine.
use Rattle.std.specs.Prelude.{ℕ, take}
use Rattle.gp_isa.specs.declared.parts.Parts.{Parts}
use Rattle.gp_isa.specs.Limits.{goroutine_frames}
use Rattle.gp_stack.specs.declared.record.Record.{Record}
use Rattle.gp_stack.specs.Body.{Progress, stack_at, labels_at}

-- The record of goroutine g, which has come so far in a program: its stack cut to the frame limit, and its labels.
-- At its trace's end its stack is empty.
abbrev pub record_of : Parts → ℕ → Progress → Record
record_of parts g at = record {
  g = g;
  stack = take goroutine_frames (stack_at parts at);
  set = labels_at parts at;
}
