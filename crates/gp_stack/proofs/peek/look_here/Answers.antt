use Rattle.std.proofs.Common.{◌≤◌, ◌-◌, refl, arith}
use Rattle.gp_stack.proofs.Looking.{level_stop, level_over, level_on, on_few, turns_few}
use Rattle.gp_stack.proofs.peek.look_here.Goals as goal

pub returns-then-not-is_over : goal.returns-then-not-is_over
returns-then-not-is_over c = level_stop c.args.program.now c.args.level c.args.here.now.statements.now c.args.here.now.statements.now c.args.limit c.look_on-first.result
    refl c.look_on-first.ensures c.if-not-is_over.ensures.more

pub overflow_sub-left : goal.overflow_sub-left
overflow_sub-left c = on_few c.args.program.now c.args.level.calls c.args.level.loops c.args.level.at c.args.limit c.args.here.now.statements.now c.look_on-first.result c.look_on-first.ensures

pub overflow_add-result : goal.overflow_add-result
overflow_add-result c =
    let first : c.look_on-first.result.local ≤ c.args.limit = on_few c.args.program.now c.args.level.calls c.args.level.loops c.args.level.at c.args.limit c.args.here.now.statements.now c.look_on-first.result c.look_on-first.ensures in
    let again : c.look_turns-again.result.local ≤ c.args.limit - c.look_on-first.result.local = turns_few c.args.program.now c.args.level.calls c.args.level.loops c.args.level.turns (c.args.limit - c.look_on-first.result.local)
    c.args.here.now.statements.now c.look_turns-again.result c.look_turns-again.ensures in
    omega arith

pub returns : goal.returns
returns c = level_on c.args.program.now c.args.level c.args.here.now.statements.now c.args.here.now.statements.now c.args.limit c.look_on-first.result c.look_turns-again.result
    refl c.look_on-first.ensures c.if-not-is_over.ensures.over c.look_turns-again.ensures

pub returns-then-level-here : goal.returns-then-level-here
returns-then-level-here c =
    level_over c.args.program.now c.args.level c.args.here.now.statements.now c.args.here.now.statements.now c.args.limit refl c.if-level-eq0.true c.if-level-here.true
