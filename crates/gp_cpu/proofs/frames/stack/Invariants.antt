use Rattle.std.proofs.Common.{◌≡◌, take, map}
use Rattle.gp_cpu.specs.Records.{frame_of}
use Rattle.gp_cpu.proofs.frames.stack.Given as goal

abbrev pub invariant-loop-word : goal.invariant-loop-word
invariant-loop-word l = l.frames.items ≡ map frame_of (take l.word-index l.words)
