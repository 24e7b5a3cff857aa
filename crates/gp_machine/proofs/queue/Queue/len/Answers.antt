use Rattle.std.proofs.Common.{length, sym, ap, ◌∙◌}
use Rattle.gp_machine.specs.Queue.{Line}
use Rattle.gp_machine.proofs.Rings.{length-items}
use Rattle.gp_machine.proofs.queue.Queue.len.Goals as goal

pub returns : goal.returns
returns c =
    let inside = c.self.inside in
    sym (length-items inside.next.items inside.prev.items inside.end inside.len c.self.invariant) ∙ ap (λ (line : Line). length line.items) c.self.view_is
