use Rattle.std.proofs.Common.{◌≡◌, suc, ◌-◌, sym, ap, ◌∙◌, arith}
use Rattle.gp_isa.specs.Checked.{lacks_statement}
use Rattle.gp_isa.proofs.BareBodies.{lacks_at, lacks_where_flat, loop_lacks-loop}
use Rattle.gp_isa.proofs.empty.+bare.Goals as goal

pub is_bare-returns-then-holds_bare_loop : goal.is_bare-returns-then-holds_bare_loop
is_bare-returns-then-holds_bare_loop t c =
    sym (lacks_at c.args.deep c.args.body.now c.loop-statement.statement-index c.statement-item.result
    c.loop-statement-test.true c.statement-item.is (cc))

pub holds_bare_loop-returns-in-Loop : goal.holds_bare_loop-returns-in-Loop
holds_bare_loop-returns-in-Loop t c =
    let one : suc (c.args.deep - 1) ≡ c.args.deep = omega arith in
    c.is_bare.ensures ∙ ap (lacks_statement (suc (c.args.deep - 1))) (c.as_slice.ensures ∙ c.get.ensures) ∙ ap (λ d. lacks_statement d c.in-Loop.body) one ∙
    sym (loop_lacks-loop (lacks_statement c.args.deep) c.args.what.now c.in-Loop.n c.in-Loop.body c.in-Loop.end c.in-Loop.is)

pub is_bare-returns-then-deep-eq0 : goal.is_bare-returns-then-deep-eq0
is_bare-returns-then-deep-eq0 t c =
    sym (lacks_where_flat c.args.deep c.args.body.now c.if-deep-eq0.true (sym c.is_empty.ensures ∙ c.if-is_empty.false))
