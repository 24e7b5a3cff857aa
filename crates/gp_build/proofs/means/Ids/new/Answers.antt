use Rattle.std.proofs.Common.{refl}
use Rattle.gp_build.proofs.Ids.{valid_functions, valid_locations}
use Rattle.gp_build.proofs.means.Ids.new.Goals as goal

pub id_set-requires : goal.id_set-requires
id_set-requires c = rw c.as_slice.ensures (valid_functions c.args.profile.now c.requires)

pub id_set-requires-2 : goal.id_set-requires-2
id_set-requires-2 c = rw c.as_slice-2.ensures (valid_locations c.args.profile.now c.requires)

pub returns : goal.returns
returns c = record {
  functions = rw (c.in_ok-id_set.ensures, c.as_slice.ensures) refl;
  locations = rw (c.in_ok-id_set-2.ensures, c.as_slice-2.ensures) refl;
  functions_once = valid_functions c.args.profile.now c.requires;
  locations_once = valid_locations c.args.profile.now c.requires;
}
