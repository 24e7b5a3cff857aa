use Rattle.std.proofs.Common.{◌≡◌, take}
use Rattle.std.specs.List.{flat_map}
use Rattle.gp_build.specs.Meant.{frames_meant}
use Rattle.gp_build.proofs.means.frames.Given as goal

abbrev pub invariant-loop-id : goal.invariant-loop-id
invariant-loop-id l = l.frames ≡ flat_map (frames_meant l.profile) (take l.id-index l.location_ids)
