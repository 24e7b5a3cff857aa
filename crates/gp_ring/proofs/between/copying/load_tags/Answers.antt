use Rattle.std.proofs.Common.{rules, ◌≡◌, ◌+◌, ◌%◌, ◌<◌, ℕ, List, [], ◌∷◌, ◌++◌, map, length, get_or, ap, sym, subst, ◌∙◌, arith}
use Rattle.std.proofs.lemmas.List.{drop-drop, length-map, take_more}
use Rattle.atomic_table.specs.Table.{Me}
use Rattle.gp_ring.specs.Records.{Offer}
use Rattle.gp_ring.specs.kept.Traces.{first_word, IsDueAt, tags_from}
use Rattle.gp_ring.specs.kept.Views.{without_tags, with_due_tags}
use Rattle.gp_ring.specs.declared.between.view.View.{View}
use Rattle.gp_ring.proofs.RingLoads.{tag-due, tag-is, tags-end}
use Rattle.gp_ring.proofs.between.copying.load_tags.Goals as goal

pub load_tag-requires-clause-due : goal.load_tag-requires-clause-due
load_tag-requires-clause-due c =
    let v = c.args.seat.now.me.0 in
    let n : c.loop-i.i < c.args.records = search rules in
    let all = length-map v.reader.ahead (λ (o : Offer). o.tag) in
    let h : c.loop-i.i < length (map (λ (o : Offer). o.tag) v.reader.ahead) = omega (arith, c.requires.records) in
    subst (λ (x : ℕ × List (ℕ × ℕ)). IsDueAt ((c.args.from + c.loop-i.i) % c.args.sizes.tags) x.0 x.1)
    (λ j. ((c.requires.sizes.1 ∙ sym (ap (λ (m : Me Unit View). m.0.tags) c.loop-i.invariant.view)) j, sym (ap (λ (m : Me Unit View). m.0.reader.due_tags) c.loop-i.invariant.view) j))
    (tag-due c.args.from c.args.sizes.tags c.loop-i.i (map (λ (o : Offer). o.tag) v.reader.ahead) h)

pub loop-i-preserved : goal.loop-i-preserved
loop-i-preserved c =
    let v = c.args.seat.now.me.0 in
    let k = c.loop-i.invariant in
    let tag_words = map (λ (o : Offer). o.tag) c.args.seat.now.me.0.reader.ahead in
    let n : c.loop-i.i < c.args.records = search rules in
    let all = length-map v.reader.ahead (λ (o : Offer). o.tag) in
    let h : c.loop-i.i < length (map (λ (o : Offer). o.tag) v.reader.ahead) = omega (arith, c.requires.records) in
    let tag : c.load_tag.result ≡ get_or (map (λ (o : Offer). o.tag) v.reader.ahead) c.loop-i.i 0 =
    c.load_tag.ensures.tag ∙ ap (λ (m : Me Unit View). first_word m.0.reader.due_tags) k.view ∙ tag-is c.args.from c.loop-i.i (map (λ (o : Offer). o.tag) v.reader.ahead) h in
    record {
      table = search rules;
      view = c.load_tag.ensures.view ∙ (λ j. (without_tags ((k.view j).0) 1, (k.view j).1))
          ∙ ap (λ (d : List (ℕ × ℕ)). (with_due_tags v d, c.args.seat.now.me.1)) (drop-drop 1 c.loop-i.i (tags_from c.args.from v.reader.ahead));
      tags = c.push_reserved.ensures.items ∙ (λ j. k.tags j ++ tag j ∷ []) ∙ sym (take_more (map (λ (o : Offer). o.tag) v.reader.ahead) c.loop-i.i 0 h);
      capacity = search rules;
    }

pub returns-clause-view : goal.returns-clause-view
returns-clause-view c =
    let v = c.args.seat.now.me.0 in
    let n : c.loop-i.i ≡ c.args.records = search rules in
    c.loop-i.invariant.view ∙ ap (λ (d : List (ℕ × ℕ)). (with_due_tags v d, c.args.seat.now.me.1))
    (tags-end c.args.from c.loop-i.i (map (λ (o : Offer). o.tag) v.reader.ahead) (n ∙ c.requires.records ∙ sym (length-map v.reader.ahead (λ (o : Offer). o.tag))))
