use Rattle.std.proofs.Common.{[], ◌∷◌, length, ap, ◌∙◌, arith, length-append}
use Rattle.gp_isa.specs.Limits.{most_functions}
use Rattle.gp_isa.proofs.Ranks.{ranks_more, are_ranks}
use Rattle.gp_isa.proofs.calls.ranks.Goals as goal

pub loop-row-preserved : goal.loop-row-preserved
loop-row-preserved c = record {
  len = ap length (c.in_ok-push.ensures).items ∙ omega (arith, c.loop-row.invariant.len, length-append c.loop-row.ranks.items (c.mark_count.result ∷ []));
  each = ranks_more most_functions c.args.rows.now c.loop-row.ranks.items c.push.new.self.items c.loop-row.row-index c.mark_count.result c.loop-row.invariant.len (c.in_ok-push.ensures).items c.mark_count.ensures.count c.loop-row.invariant.each;
}

pub returns : goal.returns
returns c parts limits acyclic len leads =
    are_ranks parts limits acyclic c.args.rows.now leads most_functions c.loop-row.ranks.items limits.functions len
    (omega (arith, c.loop-row.invariant.len, c.loop-row.auto.row-index-end, c.loop-row-test.false))
    (λ k below. c.loop-row.invariant.each k (omega (arith, c.loop-row-test.false, below)))
