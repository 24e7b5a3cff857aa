use Rattle.std.proofs.Common.{◌≡◌, get_or, Some, None, false, sym, ap, ◌∙◌}
use Rattle.std.proofs.lemmas.Option.{get_or_from_slice_get}
use Rattle.gp_journal.specs.Standing.{head_of}
use Rattle.gp_journal.specs.Run.{state_of}
use Rattle.gp_journal.specs.Due as definition
use Rattle.gp_tally.specs.declared.row.Row.{Row}
use Rattle.gp_world.specs.Rows.{blank, row_of, is_done}
use Rattle.gp_world.specs.Scene.{Scene}
use Rattle.gp_world.proofs.Picked.{finished, picked_head, picked_nobody}
use Rattle.gp_world.proofs.world.World.pick.Goals as goal

pub invariant_of-self : goal.invariant_of-self
invariant_of-self g c =
    let w = c.self.inside in
    let here : get_or w.book.rows c.args.who.now.number blank ≡ c.args.who.now.row = get_or_from_slice_get w.book.rows c.args.who.now.number c.args.who.now.row blank c.set.ensures.agree in
    let row : c.worker_with-row.result ≡ row_of g.R.Run.program g.R.Run.settings w.history c.args.who.now.number is_done 0 = cc in
    rw (c.set.ensures.rows)
    (finished g.R.Run.program g.R.Run.settings w.history w.waiting w.ring w.book.rows w.unborn.items w.numbers c.self.invariant c.args.who.now.number c.requires.worker c.worker_with-row.result
    (ap (λ (row : Row). row.a) here ∙ c.requires.nothing) row)

pub returns-then-over-clause-share : goal.returns-then-over-clause-share
returns-then-over-clause-share g c =
    let j = ap (λ (s : Scene). s.journal) c.self.view_is in
    let row : c.set.new.share.row ≡ row_of g.R.Run.program g.R.Run.settings c.args.self.now.journal c.args.who.now.number is_done 0 = cc in
    λ i. record { book = c.set.ensures.book.1 i; number = c.set.ensures.number i; row = row i }

pub returns-in-Some-clause-answer : goal.returns-in-Some-clause-answer
returns-in-Some-clause-answer g c =
    let now = state_of g.R.Run.program g.R.Run.settings c.args.self.now.journal in
    let going : definition.over g.R.Run.settings now ≡ false = cc in
    let none : definition.asked g.R.Run.settings now ≡ false = cc in
    let line : head_of c.self.inside.waiting.items ≡ head_of c.args.self.now.waiting = ap (λ (s : Scene). head_of s.waiting) c.self.view_is in
    let head : head_of c.args.self.now.waiting ≡ Some c.in-Some.g = cc in
    c.take.ensures.answer ∙ sym (picked_head g.R.Run.settings now c.args.self.now.waiting c.in-Some.g going none head)

pub returns-in-None-clause-answer : goal.returns-in-None-clause-answer
returns-in-None-clause-answer g c =
    let now = state_of g.R.Run.program g.R.Run.settings c.args.self.now.journal in
    let going : definition.over g.R.Run.settings now ≡ false = cc in
    let none : definition.asked g.R.Run.settings now ≡ false = cc in
    let line : head_of c.self.inside.waiting.items ≡ head_of c.args.self.now.waiting = ap (λ (s : Scene). head_of s.waiting) c.self.view_is in
    let nobody : head_of c.args.self.now.waiting ≡ None = cc in
    sym (picked_nobody g.R.Run.settings now c.args.self.now.waiting going none nobody)
