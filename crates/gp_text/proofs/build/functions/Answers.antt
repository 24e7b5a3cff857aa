use Rattle.std.proofs.Common.{◌∙◌, arith}
use Rattle.gp_text.specs.Spaces.{kept}
use Rattle.gp_text.proofs.Steps.{function_step, functions_over, walk_push, walk_stay, walk_over}
use Rattle.gp_text.proofs.build.functions.Goals as goal
use Rattle.gp_text.proofs.build.functions.Goals.{in-Some+in_ok-push, in_default}

pub loop-at-preserved : goal.loop-at-preserved
loop-at-preserved c =
    let step = function_step (kept c.args.spaces.now) c.args.said.now c.loop-at.at c.index-said-at.result c.loop-at-test.true c.index-said-at.is in
    elim c.match-branch-2.branch [
      | in-Some+in_ok-push w ↦ walk_push c.loop-at.functions _ _ _ _ _ _ _ c.loop-at.invariant step c.in_ok-function.ensures w.in-Some.is (w.functions-is ∙ w.in_ok-push.ensures.ok)
      | in_default w ↦ walk_stay c.loop-at.functions _ _ _ _ _ _ c.loop-at.invariant step c.in_ok-function.ensures w.in_default.is w.functions-is
    ]

pub returns : goal.returns
returns c = walk_over c.loop-at.functions _ _ c.loop-at.invariant (functions_over (kept c.args.spaces.now) c.args.said.now c.loop-at.at (omega (arith, c.loop-at-test.false)))
