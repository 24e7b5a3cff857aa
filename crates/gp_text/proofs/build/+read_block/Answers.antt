use Rattle.std.proofs.Common.{◌+◌, sym, refl, ◌∙◌, arith}
use Rattle.gp_text.specs.Spaces.{kept}
use Rattle.gp_text.proofs.Steps.{reads_statement, reads_silent, reads_loop, block_closed, block_over}
use Rattle.gp_text.proofs.build.+read_block.Goals as goal
use Rattle.gp_text.proofs.build.+read_block.Goals.{in-Some-statement+in_ok-push-in-None, in_default}

pub returns-then-is_close : goal.returns-then-is_close
returns-then-is_close t c =
    block_closed (kept c.args.spaces.now) c.args.said.now c.args.from c.loop-at.at c.loop-at.body c.index-said-at.result (record { body = c.loop-at.body; end = c.loop-at.at + 1; next = c.loop-at.at + 1 }) c.loop-at.invariant c.loop-at-test.true
    c.index-said-at.is (sym c.is_close.ensures ∙ c.if-is_close.true) refl

pub loop-at-preserved-in-Some : goal.loop-at-preserved-in-Some
loop-at-preserved-in-Some t c =
    reads_loop (kept c.args.spaces.now) c.args.said.now c.args.from c.loop-at.at c.in-Some.turns c.loop-at.body c.push.new.self c.index-said-at.result c.in_ok-loop_statement-in-Some.field-0 c.in_ok-inner-in-Some.inner c.loop-at.invariant
    c.loop-at-test.true c.index-said-at.is (sym c.turns.ensures ∙ c.in-Some.is) c.in_ok-inner-in-Some.ensures c.in_ok-loop_statement-in-Some.ensures c.in_ok-push-in-Some.ensures.ok

pub loop-at-preserved : goal.loop-at-preserved
loop-at-preserved t c =
    let open_ = sym c.is_close.ensures ∙ c.if-is_close.false in
    let none = sym c.turns.ensures ∙ c.in-None.is in
    elim c.match-statement.branch [
      | in-Some-statement+in_ok-push-in-None w ↦
          reads_statement (kept c.args.spaces.now) c.args.said.now c.args.from c.loop-at.at c.loop-at.body _ c.index-said-at.result _ c.statement.result c.loop-at.invariant c.loop-at-test.true c.index-said-at.is open_ none c.statement.ensures
          w.in-Some-statement.is (w.body-is ∙ w.in_ok-push-in-None.ensures.ok)
      | in_default w ↦
          reads_silent (kept c.args.spaces.now) c.args.said.now c.args.from c.loop-at.at c.loop-at.body _ c.index-said-at.result c.statement.result c.loop-at.invariant c.loop-at-test.true
          c.index-said-at.is open_ none c.statement.ensures w.in_default.is
          w.body-is
    ]

pub returns : goal.returns
returns t c =
    block_over (kept c.args.spaces.now) c.args.said.now c.args.from c.loop-at.at c.loop-at.body (record { body = c.loop-at.body; end = 0; next = c.loop-at.at }) c.loop-at.invariant (omega (arith, c.loop-at-test.false)) refl
