use Rattle.std.proofs.Common.{◌≡◌, arith, ap, ◌∙◌, sym, refl, length}
use Rattle.std.proofs.lemmas.List.{length-replicate}
use Rattle.gp_sync.proofs.Linking.{linked_new, lines_new}
use Rattle.gp_sync.proofs.lines.Lines.new.Goals as goal

pub invariant_of-result : goal.invariant_of-result
invariant_of-result c =
    let next : length c.in_ok-next.next.items ≡ c.args.cells = ap length (c.in_ok-next.ensures.items_if_clones_equal (λ y e. e)) ∙ length-replicate c.args.cells 0 in
    let since : length c.in_ok-since.since.items ≡ c.args.cells = ap length (c.in_ok-since.ensures.items_if_clones_equal (λ y e. e)) ∙ length-replicate c.args.cells 0 in
    linked_new c.in_ok-next.next.items c.in_ok-since.since.items c.in_ok-lines.lines.items c.args.count (omega (arith, next)) (since ∙ sym next) (c.in_ok-lines.ensures.items_if_clones_equal (λ y e. e))

pub returns : goal.returns
returns c =
    let next : length c.in_ok-next.next.items ≡ c.args.cells = ap length (c.in_ok-next.ensures.items_if_clones_equal (λ y e. e)) ∙ length-replicate c.args.cells 0 in
    rw (next, lines_new c.in_ok-next.next.items c.in_ok-since.since.items c.in_ok-lines.lines.items c.args.count (c.in_ok-lines.ensures.items_if_clones_equal (λ y e. e))) refl
