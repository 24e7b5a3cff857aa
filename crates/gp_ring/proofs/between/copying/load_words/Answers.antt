use Rattle.std.proofs.Common.{rules, ◌≡◌, ◌+◌, ◌<◌, ℕ, List, [], ◌∷◌, ◌++◌, take, drop, ap, sym, subst, ◌∙◌}
use Rattle.std.proofs.lemmas.List.{append_assoc, drop-drop}
use Rattle.atomic_table.specs.Table.{Me}
use Rattle.gp_ring.specs.kept.Traces.{first_word, IsDueAt, words_in}
use Rattle.gp_ring.specs.kept.Views.{without_words, with_due}
use Rattle.gp_ring.specs.declared.between.view.View.{View}
use Rattle.gp_ring.proofs.RingLoads.{due-at, words-due}
use Rattle.gp_ring.proofs.between.copying.load_words.Goals as goal

pub load_word-requires-clause-due : goal.load_word-requires-clause-due
load_word-requires-clause-due c =
    let v = c.args.seat.now.me.0 in
    let h : c.loop-i.i < c.args.count = search rules in
    subst (λ (x : ℕ × List (ℕ × ℕ)). IsDueAt (c.args.start + c.loop-i.i) x.0 x.1) (sym (ap (λ (m : Me Unit View). (m.0.len, m.0.reader.due)) c.loop-i.invariant.view))
    (due-at c.args.start v.len c.args.count c.loop-i.i v.reader.due c.requires.due h)

pub loop-i-preserved : goal.loop-i-preserved
loop-i-preserved c =
    let v = c.args.seat.now.me.0 in
    let k = c.loop-i.invariant in
    let h : c.loop-i.i < c.args.count = search rules in
    let word : c.load_word.result ≡ first_word (drop c.loop-i.i v.reader.due) = c.load_word.ensures.word ∙ ap (λ (m : Me Unit View). first_word m.0.reader.due) k.view in
    record {
      table = search rules;
      view = c.load_word.ensures.view ∙ (λ j. (without_words ((k.view j).0) 1, (k.view j).1)) ∙ ap (λ (d : List (ℕ × ℕ)). (with_due v d, c.args.seat.now.me.1)) (drop-drop 1 c.loop-i.i v.reader.due);
      words = c.push_reserved.ensures.items ∙ (λ j. k.words j ++ word j ∷ [])
          ∙ append_assoc c.args.to.now.items (words_in (take c.loop-i.i v.reader.due)) (first_word (drop c.loop-i.i v.reader.due) ∷ [])
          ∙ ap (λ (ws : List ℕ). c.args.to.now.items ++ ws) (sym (words-due c.args.start v.len c.args.count c.loop-i.i v.reader.due c.requires.due h));
      capacity = search rules;
    }
