use Rattle.gp_machine.proofs.Rings.{ring_new}
use Rattle.gp_machine.proofs.queue.Queue.new.Goals as goal

pub invariant_of-result : goal.invariant_of-result
invariant_of-result c =
    rw (c.in_ok-next.ensures.items_if_clones_equal (λ y e. e), c.in_ok-prev.ensures.items_if_clones_equal (λ y e. e))
    (ring_new c.args.cells)
