use Rattle.std.proofs.Common.{◌≡◌, true, false, ◌∙◌, ap, arith}
use Rattle.gp_isa.specs.kept.Ways.{marks_below}
use Rattle.gp_isa.proofs.Ranks.{marks_none, marks_more}
use Rattle.gp_isa.proofs.calls.mark_count.Goals as goal
use Rattle.gp_isa.proofs.calls.mark_count.Goals.{then-row-h, else-row-h}

pub loop-h-init : goal.loop-h-init
loop-h-init c = record { count = marks_none c.args.row.now; few = omega arith }

pub loop-h-preserved : goal.loop-h-preserved
loop-h-preserved c = elim c.if-row-h.branch [
  | then-row-h w ↦ record {
    count = w.count-is ∙ marks_more c.args.row.now c.loop-h.h c.loop-h.count true w.if-row-h.true c.loop-h.invariant.count;
    few = omega (arith, w.count-is, c.loop-h.invariant.few);
  }
  | else-row-h w ↦ record {
    count = w.count-is ∙ (omega arith ∙ marks_more c.args.row.now c.loop-h.h c.loop-h.count false w.if-row-h.false c.loop-h.invariant.count);
    few = omega (arith, w.count-is, c.loop-h.invariant.few);
  }
]

pub returns-clause-count : goal.returns-clause-count
returns-clause-count c =
    let all : c.loop-h.h ≡ 256 = omega (arith, c.loop-h-test.false, c.loop-h.auto.h-end) in c.loop-h.invariant.count ∙ ap (marks_below c.args.row.now) all
