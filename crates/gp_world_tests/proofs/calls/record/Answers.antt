use Rattle.gp_world_tests.proofs.Keeping.{keeps_entered}
use Rattle.gp_world_tests.proofs.calls.record.Goals as goal

pub returns : goal.returns
returns g c = record { kept = keeps_entered c.args.world.now c.record_one.new.world c.args.who.now c.record_one.new.who _ _ c.record_one.ensures.scene c.record_one.ensures.share }
