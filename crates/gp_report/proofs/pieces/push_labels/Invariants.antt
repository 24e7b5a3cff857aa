use Rattle.std.proofs.Common.{◌≡◌, ◌++◌, take, string_bytes}
use Rattle.std.specs.List.{flat_map}
use Rattle.gp_report.specs.Dump.{label_text}
use Rattle.gp_report.proofs.pieces.push_labels.Given as goal

abbrev pub invariant-loop-label : goal.invariant-loop-label
invariant-loop-label l = string_bytes l.out ≡ string_bytes l.initial.out ++ flat_map label_text (take l.label-index l.labels)
