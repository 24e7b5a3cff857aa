use Rattle.std.proofs.Common.{◌≡◌, take, map}
use Rattle.gp_build.specs.declared.spelled.Spelled.{Spelled}
use Rattle.gp_build.specs.Profile.{sample_of_group}
use Rattle.gp_build.proofs.samples.samples_of.Given as goal

abbrev pub invariant-loop-it : goal.invariant-loop-it
invariant-loop-it l =
    l.samples.items ≡ map (λ (it : Spelled). sample_of_group it.group) (take l.it-index l.all)
