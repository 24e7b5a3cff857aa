use Rattle.std.proofs.Common.{◌≡◌, ◌++◌, take, string_bytes}
use Rattle.std.specs.List.{flat_map}
use Rattle.gp_report.specs.Dump.{sample_line}
use Rattle.gp_report.proofs.meaning.push_samples.Given as goal

abbrev pub invariant-loop-sample : goal.invariant-loop-sample
invariant-loop-sample l = string_bytes l.out ≡ string_bytes l.initial.out ++ flat_map sample_line (take l.sample-index l.samples)
