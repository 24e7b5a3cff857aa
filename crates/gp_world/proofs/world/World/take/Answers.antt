use Rattle.std.proofs.Common.{◌≡◌, get_or, drop, ap, ◌∙◌, arith}
use Rattle.std.proofs.lemmas.Option.{get_or_from_slice_get}
use Rattle.gp_journal.specs.Standing.{head_of}
use Rattle.gp_machine.specs.Queue.{Line}
use Rattle.gp_tally.specs.declared.row.Row.{Row}
use Rattle.gp_world.specs.Rows.{blank, row_of, has_picked}
use Rattle.gp_world.specs.Scene.{Scene}
use Rattle.gp_world.proofs.Picked.{head_stands, head_once, head_rest, taken}
use Rattle.gp_world.proofs.world.World.take.Goals as goal

pub remove-requires-clause-within : goal.remove-requires-clause-within
remove-requires-clause-within g c =
    let w = c.self.inside in
    let head = ap (λ (s : Scene). head_of s.waiting) c.self.view_is ∙ c.requires.head in
    let there = head_stands g.R.Run.program g.R.Run.settings w.history w.waiting w.ring w.book.rows w.unborn.items w.numbers c.self.invariant c.args.who.now.number c.requires.worker c.args.g head in
    let below = there.cell in let cells = c.self.invariant.its_cells in omega arith

pub remove-requires-clause-once : goal.remove-requires-clause-once
remove-requires-clause-once g c =
    let w = c.self.inside in
    let head = ap (λ (s : Scene). head_of s.waiting) c.self.view_is ∙ c.requires.head in
    head_once g.R.Run.program g.R.Run.settings w.history w.waiting w.ring w.book.rows w.unborn.items w.numbers c.self.invariant c.args.who.now.number c.requires.worker c.args.g head

pub invariant_of-self : goal.invariant_of-self
invariant_of-self g c =
    let w = c.self.inside in
    let head = ap (λ (s : Scene). head_of s.waiting) c.self.view_is ∙ c.requires.head in
    let here : get_or w.book.rows c.args.who.now.number blank ≡ c.args.who.now.row = get_or_from_slice_get w.book.rows c.args.who.now.number c.args.who.now.row blank c.set.ensures.agree in
    let row : c.worker_with-row.result ≡ row_of g.R.Run.program g.R.Run.settings w.history c.args.who.now.number has_picked c.args.g = cc in
    rw (c.remove.ensures, c.set.ensures.rows)
    (taken g.R.Run.program g.R.Run.settings w.history w.waiting w.ring w.book.rows w.unborn.items w.numbers c.self.invariant c.args.who.now.number c.requires.worker c.worker_with-row.result c.args.g
    (ap (λ (row : Row). row.a) here ∙ c.requires.nothing) head row)

pub returns-clause-scene : goal.returns-clause-scene
returns-clause-scene g c =
    let w = c.self.inside in
    let head = ap (λ (s : Scene). head_of s.waiting) c.self.view_is ∙ c.requires.head in
    let rest = head_rest g.R.Run.program g.R.Run.settings w.history w.waiting w.ring w.book.rows w.unborn.items w.numbers c.self.invariant c.args.who.now.number c.requires.worker c.args.g head in
    λ i. record {
      book = (c.set.ensures.book.0 ∙ ap (λ (s : Scene). s.book) c.self.view_is) i;
      journal = (c.self.view_is i).journal;
      waiting = (ap (λ (line : Line). line.items) c.remove.ensures ∙ rest ∙ ap (λ (s : Scene). drop 1 s.waiting) c.self.view_is) i;
      ring = (c.self.view_is i).ring;
      failed = (c.self.view_is i).failed;
    }

pub returns-clause-share : goal.returns-clause-share
returns-clause-share g c =
    let j = ap (λ (s : Scene). s.journal) c.self.view_is in
    let row : c.set.new.share.row ≡ row_of g.R.Run.program g.R.Run.settings c.args.self.now.journal c.args.who.now.number has_picked c.args.g = cc in
    λ i. record { book = c.set.ensures.book.1 i; number = c.set.ensures.number i; row = row i }
