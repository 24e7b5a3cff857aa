use Rattle.std.proofs.Common.{refl}
use Rattle.gp_world_tests.proofs.Keeping.{keeps}
use Rattle.gp_world_tests.proofs.calls.whom.Goals as goal

pub returns : goal.returns
returns g c = record { kept = keeps c.args.world.now c.whom.new.self _ c.args.who.now c.whom.new.who _ c.whom.ensures.scene c.whom.ensures.share refl refl refl }
