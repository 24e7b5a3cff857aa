use Rattle.std.proofs.Common.{◌≡◌, take, map, All}
use Rattle.gp_wire.specs.RoundTrip.{LocationFits}
use Rattle.gp_build.specs.Message.{location_of}
use Rattle.gp_build.proofs.messages.locations.Given as goal

abbrev pub invariant-loop-site : goal.invariant-loop-site
invariant-loop-site l = record {
  are : l.locations ≡ map (location_of l.table.keys l.functions.keys) (take l.site-index l.site-items);
  fit : All LocationFits l.locations;
}
