use Rattle.std.proofs.Common.{arith}
use Rattle.gp_journal.proofs.Lemmas.{moved, as_many}
use Rattle.gp_sim.proofs.bodies.Bodies.pass.Goals as goal

pub returns : goal.returns
returns g c =
    let many = as_many c.self.inside.bodies.items c.args.self.now c.self.view_is in
    moved c.self.inside.bodies.items c.args.self.now c.args.g 1 c.index_mut.result.now c.pass.new.self c.self.view_is (let within = c.requires.born in omega (arith, many)) c.index_mut.ensures.value c.pass.ensures.progress
