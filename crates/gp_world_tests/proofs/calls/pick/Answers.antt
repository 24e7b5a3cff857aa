use Rattle.std.proofs.Common.{refl}
use Rattle.gp_world_tests.proofs.Keeping.{keeps}
use Rattle.gp_world_tests.proofs.calls.pick.Goals as goal

pub returns : goal.returns
returns g c = record { kept = keeps c.args.world.now c.pick.new.self _ c.args.who.now c.pick.new.who _ c.pick.ensures.scene c.pick.ensures.share refl refl refl }
