use Rattle.std.proofs.Common.{refl}
use Rattle.gp_world_tests.proofs.Keeping.{keeps}
use Rattle.gp_world_tests.proofs.calls.check.Goals as goal

pub returns : goal.returns
returns g c = record { kept = keeps c.args.world.now c.check_actor.new.self _ c.args.who.now c.check_actor.new.who _ c.check_actor.ensures.scene c.check_actor.ensures.share refl refl refl }
