use Rattle.std.proofs.Common.{ap}
use Rattle.gp_world.specs.Scene.{Scene}
use Rattle.gp_world.proofs.RingEnds.{shut_is_of}
use Rattle.gp_workers.proofs.profiling.profile_on.Goals as goal

pub returns-then-asked-clause-fit : goal.returns-then-asked-clause-fit
returns-then-asked-clause-fit g c = c.open.ensures.world.still_fit c.args.bodies.now.cap c.args.bodies.now.items c.requires.fit

pub returns-then-complete-clause-world : goal.returns-then-complete-clause-world
returns-then-complete-clause-world g c =
    let old = c.args.world.now in let new = c.finish.new.world in let scene = c.finish.ensures.scene in
    record { same_book = ap (λ (s : Scene). s.book) scene; still_of = shut_is_of old.ring new.ring (ap (λ (s : Scene). s.ring) scene) }
