use Rattle.std.proofs.Common.{◌<◌, ap, sym, ◌∙◌, get_or, length, arith}
use Rattle.std.proofs.lemmas.List.{get_or-map}
use Rattle.gp_stack.specs.Body.{progress_of}
use Rattle.gp_journal.specs.Bodies.{nowhere}
use Rattle.gp_journal.proofs.Lemmas.{as_many}
use Rattle.gp_sim.proofs.bodies.Bodies.body.Goals as goal

pub returns-clause-place : goal.returns-clause-place
returns-clause-place g c =
    let items = c.self.inside.bodies.items in
    let many = as_many items c.args.self.now c.self.view_is in
    let born = c.requires in
    let within : c.args.g < length items = omega (arith, many) in
    ap progress_of c.index.ensures ∙ sym (get_or-map progress_of items c.args.g c.index.result.now nowhere within) ∙ ap (λ ps. get_or ps c.args.g nowhere) c.self.view_is
