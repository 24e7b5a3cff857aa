use Rattle.std.proofs.Common.{◌≤◌, ◌-◌, arith}
use Rattle.gp_isa.specs.Trace.{trace}
use Rattle.gp_stack.proofs.Looking.{at_end, at_work, at_labels, at_shared, at_no_loop, at_loop, at_no_call, at_no_function, at_call, at_known, seen_few, seen_on, seen_stop, seen_end, turns_none, turns_stop, turns_times, looked_one, looked_run}
use Rattle.gp_stack.proofs.peek.+look.Goals as goal

pub look_at-returns-in-End : goal.look_at-returns-in-End
look_at-returns-in-End t c = at_end c.args.program.now c.args.calls c.args.loops c.args.block.now.statements.now c.args.at c.args.limit _ c.in-End.ensures.ahead

pub look_at-returns-in-Work : goal.look_at-returns-in-Work
look_at-returns-in-Work t c = at_work c.args.program.now c.args.calls c.args.loops c.args.block.now.statements.now c.args.at c.args.limit c.in-Work.n c.look_local.result c.in-Work.ensures.ahead c.look_local.ensures.finds

pub look_at-returns-in-Labels : goal.look_at-returns-in-Labels
look_at-returns-in-Labels t c = at_labels c.args.program.now c.args.calls c.args.loops c.args.block.now.statements.now c.args.at c.args.limit c.in-Labels.field-0 c.look_local-in-Labels.result c.in-Labels.ensures.ahead
    c.look_local-in-Labels.ensures.finds

pub look_at-returns-in-Shared : goal.look_at-returns-in-Shared
look_at-returns-in-Shared t c = at_shared c.args.program.now c.args.calls c.args.loops c.args.block.now.statements.now c.args.at c.args.limit c.in-Shared.operation c.in-Shared.ensures.ahead

pub look_at-returns-then-loops-eq0 : goal.look_at-returns-then-loops-eq0
look_at-returns-then-loops-eq0 t c = at_no_loop c.args.program.now c.args.calls c.args.loops c.args.block.now.statements.now c.args.at c.args.limit c.in-Loop.n c.in-Loop.field-1.now c.in-Loop.ensures.ahead c.if-loops-eq0.true

pub look_at-returns-else-loops-eq0 : goal.look_at-returns-else-loops-eq0
look_at-returns-else-loops-eq0 t c = at_loop c.args.program.now c.args.calls c.args.loops c.args.block.now.statements.now c.args.at c.args.limit c.in-Loop.n c.in-Loop.field-1.now c.inside.result.statements.now c.look_turns.result
    c.in-Loop.ensures.ahead c.inside.ensures.statements (omega arith) c.look_turns.ensures

pub look_at-returns-then-calls-eq0 : goal.look_at-returns-then-calls-eq0
look_at-returns-then-calls-eq0 t c = at_no_call c.args.program.now c.args.calls c.args.loops c.args.block.now.statements.now c.args.at c.args.limit c.in-Call.h c.in-Call.ensures.ahead c.if-calls-eq0.true

pub look_at-returns-then-h-len : goal.look_at-returns-then-h-len
look_at-returns-then-h-len t c = at_no_function c.args.program.now c.args.calls c.args.loops c.args.block.now.statements.now c.args.at c.args.limit c.in-Call.h c.in-Call.ensures.ahead (rw (← c.parts.ensures.parts, ← c.len.ensures) c.if-h-len.true)

pub look_at-returns-else-size-calls : goal.look_at-returns-else-size-calls
look_at-returns-else-size-calls t c = at_call c.args.program.now c.args.calls c.args.loops c.args.block.now.statements.now c.args.at c.args.limit c.in-Call.h c.block.result.statements.now c.look_on.result c.in-Call.ensures.ahead (omega arith)
    c.block.ensures.statements c.look_on.ensures

pub look_at-returns-then-size-calls : goal.look_at-returns-then-size-calls
look_at-returns-then-size-calls t c = at_known c.args.program.now c.parts.ensures.checked c.args.calls c.args.loops c.args.block.now.statements.now c.args.at c.args.limit c.in-Call.h c.look_first.result c.in-Call.ensures.ahead
    (omega (arith, c.size-size.ensures.frames, c.if-size-calls.true)) (c.look_first.ensures (trace c.args.program.now c.in-Call.h) c.size-size.ensures.before c.size-size.ensures.first)

pub look_on-overflow_add-local : goal.look_on-overflow_add-local
look_on-overflow_add-local t c =
    let few : c.look_some-seen.result.peek.local ≤ c.args.limit - c.loop-at.local = seen_few c.args.program.now c.args.calls c.args.loops c.args.block.now.statements.now c.loop-at.at c.look_some-seen.result.to (c.args.limit -
    c.loop-at.local) c.look_some-seen.result.peek c.look_some-seen.ensures.seen in
    omega (arith, c.loop-at.invariant.few)

pub look_on-returns-then-not-is_over : goal.look_on-returns-then-not-is_over
look_on-returns-then-not-is_over t c = seen_stop c.args.program.now c.args.calls c.args.loops c.args.block.now.statements.now c.args.from c.loop-at.at c.look_some-seen.result.to c.args.limit c.loop-at.local c.look_some-seen.result.peek
    c.look_some-seen.ensures.to.0 c.look_some-seen.ensures.seen
    c.loop-at.invariant.sees c.if-not-is_over.ensures.more

pub look_on-loop-at-preserved : goal.look_on-loop-at-preserved
look_on-loop-at-preserved t c = record {
  few = (let few : c.look_some-seen.result.peek.local ≤ c.args.limit - c.loop-at.local = seen_few c.args.program.now c.args.calls c.args.loops c.args.block.now.statements.now c.loop-at.at c.look_some-seen.result.to (c.args.limit -
      c.loop-at.local) c.look_some-seen.result.peek c.look_some-seen.ensures.seen in
      omega (arith, c.loop-at.invariant.few));
  sees = seen_on c.args.program.now c.args.calls c.args.loops c.args.block.now.statements.now c.args.from c.loop-at.at c.look_some-seen.result.to c.args.limit c.loop-at.local c.look_some-seen.result.peek c.look_some-seen.ensures.to.0
      c.look_some-seen.ensures.seen c.loop-at.invariant.sees
      c.if-not-is_over.ensures.over;
}

pub look_some-returns-clause-seen : goal.look_some-returns-clause-seen
look_some-returns-clause-seen t c = looked_one c.args.program.now c.args.calls c.args.loops c.args.block.now.statements.now c.args.at c.args.limit c.look_at.result c.requires.there c.look_at.ensures

pub look_some-returns-in-Some-clause-seen : goal.look_some-returns-in-Some-clause-seen
look_some-returns-in-Some-clause-seen t c =
    looked_run c.args.program.now c.parts.ensures.checked c.args.block.now.statements.now c.args.loops c.args.calls c.args.at c.args.limit c.in-Some.run' c.look_local.result (c.in-Some.ensures.run c.args.program.now c.requires.block)
    c.look_local.ensures.finds

pub look_on-returns : goal.look_on-returns
look_on-returns t c = seen_end c.args.program.now c.args.calls c.args.loops c.args.block.now.statements.now c.args.from c.loop-at.at c.args.limit c.loop-at.local (omega arith) c.loop-at.invariant.sees

pub look_turns-returns : goal.look_turns-returns
look_turns-returns t c f = turns_times c.args.program.now c.args.calls c.args.loops c.args.n c.args.limit f c.args.block.now.statements.now c.look_on-once.result c.look_times.result (c.look_on-once.ensures f) c.if-not-is_over.ensures.over
    c.look_times.ensures

pub look_turns-returns-then-not-is_over : goal.look_turns-returns-then-not-is_over
look_turns-returns-then-not-is_over t c f = turns_stop c.args.program.now c.args.calls c.args.loops c.args.n c.args.limit f c.args.block.now.statements.now c.look_on-once.result c.if-n-eq0.false (c.look_on-once.ensures f)
    c.if-not-is_over.ensures.more

pub look_turns-returns-then-n-eq0 : goal.look_turns-returns-then-n-eq0
look_turns-returns-then-n-eq0 t c f = turns_none c.args.program.now c.args.calls c.args.loops c.args.n c.args.limit f c.args.block.now.statements.now c.if-n-eq0.true
