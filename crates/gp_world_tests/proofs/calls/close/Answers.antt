use Rattle.gp_world_tests.proofs.Keeping.{keeps_entered}
use Rattle.gp_world_tests.proofs.calls.close.Goals as goal

pub returns : goal.returns
returns g c = record { kept = keeps_entered c.args.world.now c.close_profile.new.world c.args.who.now c.close_profile.new.who _ _ c.close_profile.ensures.scene c.close_profile.ensures.share }
