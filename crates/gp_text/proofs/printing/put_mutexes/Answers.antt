use Rattle.std.proofs.Common.{[], ◌∷◌, subst}
use Rattle.std.specs.Prelude.{map}
use Rattle.gp_text.specs.Text.{mutex_item}
use Rattle.gp_text.specs.Page.{texts, PutsAll}
use Rattle.gp_text.proofs.Puts.{puts_more, puts_map, puts_whole, mutex_is}
use Rattle.gp_text.proofs.printing.put_mutexes.Goals as goal

pub loop-mutex-preserved : goal.loop-mutex-preserved
loop-mutex-preserved c =
    let x = c.mutex-item.result in
    puts_more (λ y. mutex_item y ∷ []) (texts c.args.page.now) (texts c.loop-mutex.page) (texts c.put_name.new.page) c.as_slice-mutex-items.result.now c.loop-mutex.mutex-index x c.loop-mutex-test.true c.mutex-item.is
    c.loop-mutex.invariant (subst (PutsAll (texts c.loop-mutex.page) (texts c.put_name.new.page)) (mutex_is x c.as_str.result.now c.as_str.ensures) c.in_ok-put_name.ensures)

pub returns : goal.returns
returns c =
    subst (λ xs. PutsAll (texts c.args.page.now) (texts c.loop-mutex.page) (map mutex_item xs)) c.as_slice-mutex-items.ensures
    (puts_map mutex_item (texts c.args.page.now) (texts c.loop-mutex.page) c.as_slice-mutex-items.result.now
    (puts_whole (λ y. mutex_item y ∷ []) (texts c.args.page.now) (texts c.loop-mutex.page) c.as_slice-mutex-items.result.now c.loop-mutex.mutex-index c.loop-mutex-test.false c.loop-mutex.invariant))
