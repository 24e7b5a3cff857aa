use Rattle.std.proofs.Common.{take}
use Rattle.std.specs.List.{flat_map}
use Rattle.gp_build.specs.Numbers.{sample_needs, all_sites}
use Rattle.gp_build.specs.kept.Tables.{Enters}
use Rattle.gp_build.proofs.tables.need_samples.Given as goal

abbrev pub invariant-loop-sample : goal.invariant-loop-sample
invariant-loop-sample l =
    Enters l.parts l.file (flat_map (sample_needs l.parts l.file) (take l.sample-index l.samples))
    (all_sites (take l.sample-index l.samples)) l.initial.all l.all
