use Rattle.std.proofs.Common.{arith, ◌∙◌}
use Rattle.gp_io.proofs.Appended.{Appends-nil, more, some_more, all_of}
use Rattle.gp_io.proofs.Calls.{on_err}
use Rattle.gp_io.proofs.whole.write_all.Goals as goal

pub returns-in_err-at-clause-prefix : goal.returns-in_err-at-clause-prefix
returns-in_err-at-clause-prefix g c =
    on_err c.from_residual.result _ (some_more _ _ _ c.args.piece.now c.loop-at.at c.loop-at.invariant.appended c.in_err-at.ensures.prefix)

pub loop-at-preserved : goal.loop-at-preserved
loop-at-preserved g c = record {
  within = omega (arith, c.in_ok-at.ensures.within);
  appended = more _ _ _ c.args.piece.now c.loop-at.at c.in_ok-at.field-0 c.loop-at.invariant.appended c.in_ok-at.ensures.appended;
  no_fault = c.in_ok-at.ensures.well ∙ c.loop-at.invariant.no_fault;
}

pub returns-clause-whole : goal.returns-clause-whole
returns-clause-whole g c = all_of _ _ c.args.piece.now c.loop-at.at c.loop-at-test.false c.loop-at.invariant.appended
