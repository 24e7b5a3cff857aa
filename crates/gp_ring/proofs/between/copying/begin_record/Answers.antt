use Rattle.std.proofs.Common.{rules, ◌≡◌, ℕ, List, ap, sym, subst, ◌∙◌}
use Rattle.atomic_table.specs.Table.{Me}
use Rattle.gp_ring.specs.kept.Traces.{first_word, IsDueAt, IsRecordAt}
use Rattle.gp_ring.specs.declared.between.view.View.{View}
use Rattle.gp_ring.proofs.RingLoads.{mark-then, body-due, body-first}
use Rattle.gp_ring.proofs.between.copying.begin_record.Goals as goal

pub load_word-requires-clause-due : goal.load_word-requires-clause-due
load_word-requires-clause-due c =
    let v = c.args.seat.now.me.0 in
    let z : first_word c.args.seat.now.me.0.reader.due ≡ 0 = search rules in
    let t = mark-then v.len c.args.at v.reader.due c.requires.record_there c.requires.some z in
    subst (λ (x : ℕ × List (ℕ × ℕ)). IsDueAt 0 x.0 x.1) (sym (ap (λ (m : Me Unit View). (m.0.len, m.0.reader.due)) c.load_word-first.ensures.view))
    (subst (IsDueAt 0 v.len) (sym t.0) (body-due c.requires.record_there 0 t.1))

pub returns-clause-size : goal.returns-clause-size
returns-clause-size c = λ (r : IsRecordAt c.args.seat.now.me.0.len c.args.at c.args.seat.now.me.0.reader.due).
    let v = c.args.seat.now.me.0 in
    let z : first_word c.args.seat.now.me.0.reader.due ≡ 0 = search rules in
    let t = mark-then v.len c.args.at v.reader.due r c.requires.some z in
    c.load_word.ensures.word ∙ ap (λ (m : Me Unit View). first_word m.0.reader.due) c.load_word-first.ensures.view ∙ ap first_word t.0 ∙ body-first r

pub returns-clause-start : goal.returns-clause-start
returns-clause-start c = λ (r : IsRecordAt c.args.seat.now.me.0.len c.args.at c.args.seat.now.me.0.reader.due).
    let v = c.args.seat.now.me.0 in
    let z : first_word c.args.seat.now.me.0.reader.due ≡ 0 = search rules in
    (mark-then v.len c.args.at v.reader.due r c.requires.some z).1
