use Rattle.std.proofs.Common.{◌≡◌, get_or, ap, ◌∙◌, arith}
use Rattle.std.proofs.lemmas.Option.{get_or_from_slice_get}
use Rattle.gp_tally.specs.declared.row.Row.{Row}
use Rattle.gp_world.specs.Rows.{blank, row_of, has_nothing}
use Rattle.gp_world.specs.Scene.{Scene}
use Rattle.gp_world.proofs.Picked.{pick_stands, pick_absent, returned}
use Rattle.gp_world.proofs.world.World.put_back.Goals as goal

pub push_front-requires-clause-within : goal.push_front-requires-clause-within
push_front-requires-clause-within g c =
    let w = c.self.inside in
    let here : get_or w.book.rows c.args.who.now.number blank ≡ c.args.who.now.row = get_or_from_slice_get w.book.rows c.args.who.now.number c.args.who.now.row blank c.set.ensures.agree in
    let there = pick_stands g.R.Run.program g.R.Run.settings w.history w.waiting w.ring w.book.rows w.unborn.items w.numbers c.self.invariant c.args.who.now.number c.requires.worker c.args.g
    (ap (λ (row : Row). row.a) here ∙ c.requires.picked) (ap (λ (row : Row). row.b) here ∙ c.requires.g) in
    let below = there.cell in let cells = c.self.invariant.its_cells in omega arith

pub push_front-requires-clause-absent : goal.push_front-requires-clause-absent
push_front-requires-clause-absent g c =
    let w = c.self.inside in
    let here : get_or w.book.rows c.args.who.now.number blank ≡ c.args.who.now.row = get_or_from_slice_get w.book.rows c.args.who.now.number c.args.who.now.row blank c.set.ensures.agree in
    pick_absent g.R.Run.program g.R.Run.settings w.history w.waiting w.ring w.book.rows w.unborn.items w.numbers c.self.invariant c.args.who.now.number c.requires.worker c.args.g
    (ap (λ (row : Row). row.a) here ∙ c.requires.picked) (ap (λ (row : Row). row.b) here ∙ c.requires.g)

pub invariant_of-self : goal.invariant_of-self
invariant_of-self g c =
    let w = c.self.inside in
    let here : get_or w.book.rows c.args.who.now.number blank ≡ c.args.who.now.row = get_or_from_slice_get w.book.rows c.args.who.now.number c.args.who.now.row blank c.set.ensures.agree in
    let row : c.worker_with-row.result ≡ row_of g.R.Run.program g.R.Run.settings w.history c.args.who.now.number has_nothing 0 = cc in
    rw (c.push_front.ensures, c.set.ensures.rows)
    (returned g.R.Run.program g.R.Run.settings w.history w.waiting w.ring w.book.rows w.unborn.items w.numbers c.self.invariant c.args.who.now.number c.requires.worker c.worker_with-row.result c.args.g
    (ap (λ (row : Row). row.a) here ∙ c.requires.picked) (ap (λ (row : Row). row.b) here ∙ c.requires.g) row)

pub returns-clause-share : goal.returns-clause-share
returns-clause-share g c =
    let j = ap (λ (s : Scene). s.journal) c.self.view_is in
    let row : c.set.new.share.row ≡ row_of g.R.Run.program g.R.Run.settings c.args.self.now.journal c.args.who.now.number has_nothing 0 = cc in
    λ i. record { book = c.set.ensures.book.1 i; number = c.set.ensures.number i; row = row i }
