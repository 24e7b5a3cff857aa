use Rattle.std.proofs.Common.{◌≡◌, take, map, All}
use Rattle.gp_wire.specs.RoundTrip.{IsWord}
use Rattle.gp_build.specs.Numbers.{location_id}
use Rattle.gp_build.proofs.messages.location_ids.Given as goal

abbrev pub invariant-loop-site : goal.invariant-loop-site
invariant-loop-site l = record {
  are : l.ids ≡ map (location_id l.locations.keys) (take l.site-index l.stack);
  fit : All IsWord l.ids;
}
