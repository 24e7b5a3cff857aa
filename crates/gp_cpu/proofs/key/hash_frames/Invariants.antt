use Rattle.std.proofs.Common.{◌≡◌, take, fold}
use Rattle.std.specs.List.{flat_map}
use Rattle.gp_cpu.specs.laws.Alike.{frame_input}
use Rattle.gp_cpu.proofs.key.hash_frames.Given as goal

abbrev pub invariant-loop-frame : goal.invariant-loop-frame
invariant-loop-frame g l =
    l.state ≡ fold g.H.Hasher.write l.initial.state (flat_map frame_input (take l.frame-index l.stack))
