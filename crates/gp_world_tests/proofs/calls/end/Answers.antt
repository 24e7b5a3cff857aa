use Rattle.std.proofs.Common.{refl, ap}
use Rattle.gp_world.specs.Scene.{Scene}
use Rattle.gp_world.proofs.RingEnds.{shut_is_of}
use Rattle.gp_world_tests.proofs.Keeping.{keeps_so}
use Rattle.gp_world_tests.proofs.calls.end.Goals as goal

pub returns : goal.returns
returns g c = record {
  kept = keeps_so c.args.world.now c.finish.new.world _ c.args.who.now c.finish.new.who _ c.finish.ensures.scene c.finish.ensures.share refl refl
      (shut_is_of c.args.world.now.ring c.finish.new.world.ring (ap (λ (s : Scene). s.ring) c.finish.ensures.scene));
}
