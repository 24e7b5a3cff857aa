use Rattle.std.proofs.Common.{◌≡◌, get_or, ap, ◌∙◌, subst, arith}
use Rattle.std.proofs.lemmas.Option.{get_or_from_slice_get}
use Rattle.gp_tally.specs.declared.row.Row.{Row}
use Rattle.gp_world.specs.Rows.{blank}
use Rattle.gp_world.specs.Scene.{Scene}
use Rattle.gp_world.specs.kept.Workers.{HasPicked}
use Rattle.gp_world.proofs.Picked.{pick_stands, has_picked_it}
use Rattle.gp_world.proofs.world.World.picked_by.Goals as goal

pub overflow_cast-result : goal.overflow_cast-result
overflow_cast-result g c =
    let w = c.self.inside in
    let here : get_or w.book.rows c.args.who.now.number blank ≡ c.args.who.now.row = get_or_from_slice_get w.book.rows c.args.who.now.number c.args.who.now.row blank c.check.ensures.agree in
    let there = pick_stands g.R.Run.program g.R.Run.settings w.history w.waiting w.ring w.book.rows w.unborn.items w.numbers c.self.invariant c.args.who.now.number c.requires.worker c.args.who.now.row.b
    (ap (λ (row : Row). row.a) here ∙ c.requires.picked) (ap (λ (row : Row). row.b) here) in
    let below = there.cell in let few = c.self.invariant.in_range.cells in
    let same : c.row.result.b ≡ c.args.who.now.row.b = cc in
    omega arith

pub returns-clause-picked : goal.returns-clause-picked
returns-clause-picked g c =
    let w = c.self.inside in
    let here : get_or w.book.rows c.args.who.now.number blank ≡ c.args.who.now.row = get_or_from_slice_get w.book.rows c.args.who.now.number c.args.who.now.row blank c.check.ensures.agree in
    let j = ap (λ (s : Scene). s.journal) c.self.view_is in
    let same : c.args.who.now.row.b ≡ c.row.result.b = cc in
    subst (λ n. HasPicked g.R.Run.program g.R.Run.settings c.args.self.now.journal c.args.who.now.number c.args.who.now.row n) same
    (subst (λ journal. HasPicked g.R.Run.program g.R.Run.settings journal c.args.who.now.number c.args.who.now.row c.args.who.now.row.b) j
    (has_picked_it g.R.Run.program g.R.Run.settings w.history w.waiting w.ring w.book.rows w.unborn.items w.numbers c.self.invariant c.args.who.now.number c.requires.worker c.args.who.now.row here c.requires.picked))
