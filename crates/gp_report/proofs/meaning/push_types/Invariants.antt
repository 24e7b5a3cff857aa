use Rattle.std.proofs.Common.{◌≡◌, ◌++◌, take, string_bytes}
use Rattle.std.specs.List.{flat_map}
use Rattle.gp_report.specs.Dump.{type_line}
use Rattle.gp_report.proofs.meaning.push_types.Given as goal

abbrev pub invariant-loop-kind : goal.invariant-loop-kind
invariant-loop-kind l = string_bytes l.out ≡ string_bytes l.initial.out ++ flat_map type_line (take l.kind-index l.types)
