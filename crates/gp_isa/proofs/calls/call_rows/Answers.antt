use Rattle.std.proofs.Common.{[], ◌∷◌, length, ap, ◌∙◌, arith, length-append}
use Rattle.gp_isa.specs.Calls.{callees}
use Rattle.gp_isa.specs.kept.Ways.{is_among}
use Rattle.gp_isa.proofs.Named.{row_fits, one_row_more, row_tells, whole_rows}
use Rattle.gp_isa.proofs.calls.call_rows.Goals as goal

pub call_row-found-requires : goal.call_row-found-requires
call_row-found-requires c =
    row_fits c.args.parts.now c.requires c.as_slice-function-items.result.now c.loop-function.function-index c.function-item.result c.as_slice.result.now
    c.as_slice-function-items.ensures c.loop-function-test.true c.function-item.is c.as_slice.ensures

pub loop-function-preserved : goal.loop-function-preserved
loop-function-preserved c = record {
  len = ap length (c.in_ok-push.ensures).items ∙ omega (arith, c.loop-function.invariant.len, length-append c.loop-function.rows.items (c.call_row-found.result.0 ∷ []));
  calls = one_row_more (λ k h. is_among h (callees c.args.parts.now k)) c.loop-function.rows.items c.loop-function.function-index c.call_row-found.result.0
      c.loop-function.invariant.len
      (row_tells c.args.parts.now c.as_slice-function-items.result.now c.loop-function.function-index c.function-item.result c.as_slice.result.now c.call_row-found.result.0
      c.as_slice-function-items.ensures c.loop-function-test.true c.function-item.is c.as_slice.ensures c.call_row-found.ensures)
      c.push.new.self.items (c.in_ok-push.ensures).items c.loop-function.invariant.calls;
}

pub returns-clause-calls : goal.returns-clause-calls
returns-clause-calls c =
    whole_rows c.args.parts.now c.loop-function.rows.items
    (omega (arith, c.loop-function.invariant.len, c.loop-function.auto, c.loop-function-test.false, ap length c.as_slice-function-items.ensures))
    (λ k h below. c.loop-function.invariant.calls k h (omega (arith, c.loop-function-test.false, ap length c.as_slice-function-items.ensures, below)))
