-- The places of messages by their ids.
use Rattle.std.specs.Prelude.{◌≡◌, false}
use Rattle.gp_wire.specs.declared.profile.Profile.{Profile}
use Rattle.gp_wire.specs.Valid.{function_ids, location_ids, bad_ids}
use Rattle.gp_build.specs.declared.means.Ids.{Ids}

-- The sets have the ids of the functions and the locations, each at the place of its message.
pub record AreIds (p : Profile) (ids : Ids) : Type 0 where
  pub functions : ids.functions.keys ≡ function_ids p
  pub locations : ids.locations.keys ≡ location_ids p
  pub functions_once : bad_ids (function_ids p) ≡ false
  pub locations_once : bad_ids (location_ids p) ≡ false
