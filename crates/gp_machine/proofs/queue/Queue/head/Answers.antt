use Rattle.std.proofs.Common.{ℕ, Some, arith, ap, ◌∙◌, sym}
use Rattle.std.proofs.lemmas.List.{get_or_read}
use Rattle.gp_machine.specs.Queue.{Line}
use Rattle.gp_journal.specs.Standing.{head_of}
use Rattle.gp_machine.proofs.Rings.{head_is}
use Rattle.gp_machine.proofs.queue.Queue.head.Goals as goal

pub returns : goal.returns
returns c =
    let inside = c.self.inside in
    let first = get_or_read inside.next.items inside.end c.index.result.now (omega (arith, c.self.invariant.nexts)) c.index.ensures 0 in
    ap (λ (g : ℕ). Some g) first ∙ sym (head_is inside.next.items inside.end inside.len c.if-self-eq0.false) ∙ ap (λ (line : Line). head_of line.items) c.self.view_is
