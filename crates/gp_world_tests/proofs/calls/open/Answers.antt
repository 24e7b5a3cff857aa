use Rattle.gp_world_tests.proofs.Keeping.{keeps_entered}
use Rattle.gp_world_tests.proofs.calls.open.Goals as goal

pub returns : goal.returns
returns g c = record { kept = keeps_entered c.args.world.now c.open_profile.new.world c.args.who.now c.open_profile.new.who _ _ c.open_profile.ensures.scene c.open_profile.ensures.share }
