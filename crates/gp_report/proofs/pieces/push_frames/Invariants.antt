use Rattle.std.proofs.Common.{◌≡◌, ◌++◌, take, string_bytes}
use Rattle.std.specs.List.{flat_map}
use Rattle.gp_report.specs.Dump.{frame_text}
use Rattle.gp_report.proofs.pieces.push_frames.Given as goal

abbrev pub invariant-loop-frame : goal.invariant-loop-frame
invariant-loop-frame l = string_bytes l.out ≡ string_bytes l.initial.out ++ flat_map frame_text (take l.frame-index l.frames)
