use Rattle.std.proofs.Common.{subst, sym}
use Rattle.gp_world.specs.Scene.{Scene}
use Rattle.gp_workers.specs.kept.Locked.{Fit}
use Rattle.gp_workers.proofs.Following.{body_stands, lent_back}
use Rattle.gp_workers.proofs.working.go.Goals as goal

pub start-requires-clause-stands : goal.start-requires-clause-stands
start-requires-clause-stands g c =
    body_stands g.R.Run.program g.R.Run.settings c.args.world.now.journal _ c.whom-g.result c.args.bodies.now.items c.index_mut.result.now c.requires.fit c.whom-g.ensures.live c.index_mut.ensures.value

pub returns-clause-fit : goal.returns-clause-fit
returns-clause-fit g c =
    let items = c.args.bodies.now.items in
    subst (λ xs. Fit g.R.Run.program g.R.Run.settings c.start.new.world.journal c.args.bodies.now.cap xs) (sym (lent_back items c.whom-g.result c.index_mut.result.now c.start.new.body c.index_mut.ensures.value c.start.ensures.body))
    (c.start.ensures.world.still_fit c.args.bodies.now.cap items (subst (λ (s : Scene). Fit g.R.Run.program g.R.Run.settings s.journal c.args.bodies.now.cap items) (sym c.whom-g.ensures.scene) c.requires.fit))
