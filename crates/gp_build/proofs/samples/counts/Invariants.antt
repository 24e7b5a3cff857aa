use Rattle.std.proofs.Common.{◌≡◌, take, map}
use Rattle.gp_build.specs.Shown.{shown_in}
use Rattle.gp_build.specs.laws.Alike.{same_shown_equiv}
use Rattle.gp_build.proofs.Tally.{tally}
use Rattle.gp_build.proofs.samples.counts.Given as goal

abbrev pub invariant-loop-record : goal.invariant-loop-record
invariant-loop-record l =
    l.counts.entries ≡ tally same_shown_equiv (map (shown_in l.parts) (take l.record-index l.records))
