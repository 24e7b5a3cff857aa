use Rattle.std.proofs.Common.{◌-◌, ◌+◌, ◌%◌, ℕ, List, ◌++◌, take, ap, sym, subst, ◌∙◌}
use Rattle.atomic_table.specs.Table.{Me}
use Rattle.gp_ring.specs.kept.Traces.{IsRecordAt, AreDueAt, words_in}
use Rattle.gp_ring.specs.kept.Views.{without_words, with_due}
use Rattle.gp_ring.specs.declared.between.view.View.{View}
use Rattle.gp_ring.proofs.RingLoads.{record-due, record-rest, record-words, record-behind}
use Rattle.gp_ring.proofs.between.copying.load_record.Goals as goal

pub load_words-requires-clause-due : goal.load_words-requires-clause-due
load_words-requires-clause-due c =
    let v = c.args.seat.now.me.0 in
    let r = c.requires.record_there in
    let b = c.begin_record-size in
    subst (λ (x : ℕ × List (ℕ × ℕ)). AreDueAt (c.begin_record-size.result.start + 1) x.0 (c.begin_record-size.result.size - 1) x.1) (sym (ap (λ (m : Me Unit View). (m.0.len, m.0.reader.due)) (b.ensures.view r)))
    (record-due v.len c.args.at v.reader.due r b.result.start b.result.size (b.ensures.start r) (b.ensures.size r) b.ensures.within)

pub returns-clause-view : goal.returns-clause-view
returns-clause-view c = λ (r : IsRecordAt c.args.seat.now.me.0.len c.args.at c.args.seat.now.me.0.reader.due).
    let v = c.args.seat.now.me.0 in
    let b = c.begin_record-size in
    let e = b.ensures.view r in
    c.load_words.ensures.view ∙ (λ j. (without_words ((e j).0) (c.begin_record-size.result.size - 1), (e j).1))
    ∙ ap (λ (d : List (ℕ × ℕ)). (with_due v d, c.args.seat.now.me.1)) (record-rest v.len c.args.at v.reader.due r b.result.size (b.ensures.size r))

pub returns-clause-words : goal.returns-clause-words
returns-clause-words c = λ (r : IsRecordAt c.args.seat.now.me.0.len c.args.at c.args.seat.now.me.0.reader.due).
    let v = c.args.seat.now.me.0 in
    let b = c.begin_record-size in
    let due = ap (λ (m : Me Unit View). m.0.reader.due) (b.ensures.view r) in
    c.load_words.ensures.words ∙ (λ j. c.push_reserved.ensures.items j ++ words_in (take (c.begin_record-size.result.size - 1) (due j)))
    ∙ record-words v.len c.args.at v.reader.due r c.args.to.now.items b.result.size (b.ensures.size r)

pub returns-clause-place : goal.returns-clause-place
returns-clause-place c = λ (r : IsRecordAt c.args.seat.now.me.0.len c.args.at c.args.seat.now.me.0.reader.due).
    let v = c.args.seat.now.me.0 in
    let b = c.begin_record-size in
    ap (λ (n : ℕ). (c.begin_record-size.result.start + c.begin_record-size.result.size) % n) c.requires.len
    ∙ record-behind v.len c.args.at v.reader.due r b.result.start b.result.size (b.ensures.start r) (b.ensures.size r)
