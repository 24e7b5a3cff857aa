use Rattle.std.proofs.Common.{rules, refl}
use Rattle.gp_journal.specs.Bodies.{progress_each}
use Rattle.gp_journal.proofs.Lemmas.{moved}
use Rattle.gp_workers.proofs.working.follow.Goals as goal

pub returns-in-Advance-clause-places : goal.returns-in-Advance-clause-places
returns-in-Advance-clause-places c =
    let step = moved c.args.bodies.now.items (progress_each c.args.bodies.now.items) c.args.g c.in-Advance.n c.index_mut.result.now c.advance.new.self refl (search rules) (search rules) (search rules) in
    grind rules
