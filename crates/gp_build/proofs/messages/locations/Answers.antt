use Rattle.std.proofs.Common.{List, All, sym, subst}
use Rattle.std.proofs.lemmas.List.Elements.{All-push}
use Rattle.gp_wire.specs.declared.profile.Location.{Location}
use Rattle.gp_wire.specs.RoundTrip.{LocationFits}
use Rattle.gp_build.specs.Message.{location_of}
use Rattle.gp_build.proofs.Steps.{map_step}
use Rattle.gp_build.proofs.messages.locations.Goals as goal

pub loop-site-preserved : goal.loop-site-preserved
loop-site-preserved c = record {
  are = map_step (location_of c.args.table.now.keys c.args.functions.now.keys) c.as_slice-site-items.result.now
      c.loop-site.site-index _ _ _ _ c.loop-site-test.true
      c.loop-site.invariant.are c.in_ok-location.ensures.location c.in_ok-push.ensures.ok;
  fit = subst (λ (all : List Location). All LocationFits all) (sym c.in_ok-push.ensures.ok)
      (All-push LocationFits c.loop-site.locations c.in_ok-location.field-0 c.loop-site.invariant.fit c.in_ok-location.ensures.fits);
}
