use Rattle.std.proofs.Common.{◌∙◌, arith}
use Rattle.gp_text.proofs.Steps.{each_step, each_over, walk_push, walk_stay, walk_over}
use Rattle.gp_text.proofs.declare.each.Goals as goal
use Rattle.gp_text.proofs.declare.each.Goals.{in-Some+in_ok-push, in_default}

pub loop-at-preserved : goal.loop-at-preserved
loop-at-preserved g c =
    let step = each_step g.D.Declaration.declared_by c.args.said.now c.loop-at.at c.index-said-at.result c.loop-at-test.true c.index-said-at.is in
    elim c.match-branch-2.branch [
      | in-Some+in_ok-push w ↦ walk_push c.loop-at.all _ _ _ _ _ _ _ c.loop-at.invariant step c.in_ok-declaration.ensures w.in-Some.is (w.all-is ∙ w.in_ok-push.ensures.ok)
      | in_default w ↦ walk_stay c.loop-at.all _ _ _ _ _ _ c.loop-at.invariant step c.in_ok-declaration.ensures w.in_default.is w.all-is
    ]

pub returns : goal.returns
returns g c = walk_over c.loop-at.all _ _ c.loop-at.invariant (each_over g.D.Declaration.declared_by c.args.said.now c.loop-at.at (omega (arith, c.loop-at-test.false)))
