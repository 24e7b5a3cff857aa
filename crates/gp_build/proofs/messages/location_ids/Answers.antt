use Rattle.std.proofs.Common.{ℕ, List, All, sym, subst, rules}
use Rattle.std.proofs.lemmas.List.Elements.{All-push}
use Rattle.gp_wire.specs.RoundTrip.{IsWord}
use Rattle.gp_build.specs.Numbers.{location_id}
use Rattle.gp_build.proofs.Steps.{map_step}
use Rattle.gp_build.proofs.messages.location_ids.Goals as goal

pub loop-site-preserved : goal.loop-site-preserved
loop-site-preserved c = record {
  are = map_step (location_id c.args.locations.now.keys) c.args.stack.now c.loop-site.site-index _ _ _ _ c.loop-site-test.true
      c.loop-site.invariant.are c.met_id.ensures c.in_ok-push.ensures.ok;
  fit = subst (λ (ids : List ℕ). All IsWord ids) (sym c.in_ok-push.ensures.ok)
      (All-push IsWord c.loop-site.ids c.met_id.result c.loop-site.invariant.fit (search rules));
}
