use Rattle.std.proofs.Common.{◌≡◌, take, fold}
use Rattle.std.specs.List.{flat_map}
use Rattle.gp_build.specs.laws.Alike.{pair_input}
use Rattle.gp_build.proofs.shown.hash_pairs.Given as goal

abbrev pub invariant-loop-pair : goal.invariant-loop-pair
invariant-loop-pair g l =
    l.state ≡ fold g.H.Hasher.write l.initial.state (flat_map pair_input (take l.pair-index l.pairs))
