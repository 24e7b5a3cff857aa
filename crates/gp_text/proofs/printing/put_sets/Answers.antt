use Rattle.std.proofs.Common.{[], ◌∷◌, ap, subst, ◌∙◌}
use Rattle.std.specs.Prelude.{map}
use Rattle.gp_text.specs.Text.{item, set_item}
use Rattle.gp_text.specs.Page.{texts, PutsAll}
use Rattle.gp_text.proofs.Puts.{puts_more, puts_map, puts_whole}
use Rattle.gp_text.proofs.printing.put_sets.Goals as goal

pub loop-set-preserved : goal.loop-set-preserved
loop-set-preserved c =
    let x = c.set-item.result in
    puts_more (λ y. set_item y ∷ []) (texts c.args.page.now) (texts c.loop-set.page) (texts c.put.new.page) c.as_slice-set-items.result.now c.loop-set.set-index x c.loop-set-test.true c.set-item.is
    c.loop-set.invariant (subst (PutsAll (texts c.loop-set.page) (texts c.put.new.page)) (ap (λ t. item x.line t ∷ []) (c.as_str.ensures.value ∙ c.in_ok-text.ensures)) c.in_ok-put.ensures)

pub returns : goal.returns
returns c =
    subst (λ xs. PutsAll (texts c.args.page.now) (texts c.loop-set.page) (map set_item xs)) c.as_slice-set-items.ensures
    (puts_map set_item (texts c.args.page.now) (texts c.loop-set.page) c.as_slice-set-items.result.now
    (puts_whole (λ y. set_item y ∷ []) (texts c.args.page.now) (texts c.loop-set.page) c.as_slice-set-items.result.now c.loop-set.set-index c.loop-set-test.false c.loop-set.invariant))
