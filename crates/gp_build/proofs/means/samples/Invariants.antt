use Rattle.std.proofs.Common.{◌≡◌, take, map}
use Rattle.gp_build.specs.Meant.{sample_meant}
use Rattle.gp_build.proofs.means.samples.Given as goal

abbrev pub invariant-loop-item : goal.invariant-loop-item
invariant-loop-item l = l.meant ≡ map (sample_meant l.profile) (take l.item-index l.profile.samples)
