use Rattle.std.proofs.Common.{◌≡◌, ◌++◌, suc, ◌-◌, codes, sym, subst, ◌∙◌, arith, rules}
use Rattle.std.specs.Prelude.{decimal}
use Rattle.gp_text.specs.Text.{body_items}
use Rattle.gp_text.specs.Page.{texts, PutsAll}
use Rattle.gp_text.proofs.Puts.{puts_none, puts_append, puts_more, puts_whole, then_puts, puts_as, statement_items, body_items-suc, body_items-zero, work_is, loop_is, call_is, send_is, recv_is, lock_is, unlock_is, spawn_is, labels_is}
use Rattle.gp_text.proofs.printing.+print.Goals as goal
use Rattle.gp_text.proofs.printing.+print.Goals.{put_action-then-deep-gt0+in_ok-put_body-in-Loop, put_action-else-deep-gt0}

pub put_action-returns-in_ok-text-in-Work : goal.put_action-returns-in_ok-text-in-Work
put_action-returns-in_ok-text-in-Work t c =
    let text : c.as_str.result.now ≡ codes "work " ++ decimal c.in-Work.n = search rules in
    puts_as c.put.result (texts c.args.page.now) (texts c.put.new.page) _ _ c.put.ensures (work_is c.args.parts.now (body_items c.args.parts.now c.args.deep) c.args.line c.in-Work.n c.args.what.now c.as_str.result.now c.in-Work.is text)

pub put_action-returns-in-Call : goal.put_action-returns-in-Call
put_action-returns-in-Call t c =
    puts_as c.put_name.result (texts c.args.page.now) (texts c.put_name.new.page) _ _ c.put_name.ensures
    (call_is c.args.parts.now (body_items c.args.parts.now c.args.deep) c.args.line c.in-Call.f c.args.what.now c.function_name.result.now c.in-Call.is c.function_name.ensures)

pub put_action-returns-in-Send : goal.put_action-returns-in-Send
put_action-returns-in-Send t c =
    puts_as c.put_name-in-Send.result (texts c.args.page.now) (texts c.put_name-in-Send.new.page) _ _ c.put_name-in-Send.ensures
    (send_is c.args.parts.now (body_items c.args.parts.now c.args.deep) c.args.line c.in-Send.c c.args.what.now c.channel_name.result.now c.in-Send.is c.channel_name.ensures)

pub put_action-returns-in-Recv : goal.put_action-returns-in-Recv
put_action-returns-in-Recv t c =
    puts_as c.put_name-in-Recv.result (texts c.args.page.now) (texts c.put_name-in-Recv.new.page) _ _ c.put_name-in-Recv.ensures
    (recv_is c.args.parts.now (body_items c.args.parts.now c.args.deep) c.args.line c.in-Recv.c c.args.what.now c.channel_name-in-Recv.result.now c.in-Recv.is c.channel_name-in-Recv.ensures)

pub put_action-returns-in-Lock : goal.put_action-returns-in-Lock
put_action-returns-in-Lock t c =
    puts_as c.put_name-in-Lock.result (texts c.args.page.now) (texts c.put_name-in-Lock.new.page) _ _ c.put_name-in-Lock.ensures
    (lock_is c.args.parts.now (body_items c.args.parts.now c.args.deep) c.args.line c.in-Lock.m c.args.what.now c.mutex_name.result.now c.in-Lock.is c.mutex_name.ensures)

pub put_action-returns-in-Unlock : goal.put_action-returns-in-Unlock
put_action-returns-in-Unlock t c =
    puts_as c.put_name-in-Unlock.result (texts c.args.page.now) (texts c.put_name-in-Unlock.new.page) _ _ c.put_name-in-Unlock.ensures
    (unlock_is c.args.parts.now (body_items c.args.parts.now c.args.deep) c.args.line c.in-Unlock.m c.args.what.now c.mutex_name-in-Unlock.result.now c.in-Unlock.is c.mutex_name-in-Unlock.ensures)

pub put_action-returns-in-Spawn : goal.put_action-returns-in-Spawn
put_action-returns-in-Spawn t c =
    puts_as c.put_name-in-Spawn.result (texts c.args.page.now) (texts c.put_name-in-Spawn.new.page) _ _ c.put_name-in-Spawn.ensures
    (spawn_is c.args.parts.now (body_items c.args.parts.now c.args.deep) c.args.line c.in-Spawn.f c.args.what.now c.function_name-in-Spawn.result.now c.in-Spawn.is c.function_name-in-Spawn.ensures)

pub put_action-returns-in-Labels : goal.put_action-returns-in-Labels
put_action-returns-in-Labels t c =
    puts_as c.put_name-in-Labels.result (texts c.args.page.now) (texts c.put_name-in-Labels.new.page) _ _ c.put_name-in-Labels.ensures
    (labels_is c.args.parts.now (body_items c.args.parts.now c.args.deep) c.args.line c.in-Labels.s c.args.what.now c.set_name.result.now c.in-Labels.is c.set_name.ensures)

pub put_action-returns-after-deep-gt0 : goal.put_action-returns-after-deep-gt0
put_action-returns-after-deep-gt0 t c =
    let parts = c.args.parts.now in
    let text : c.as_str-in-Loop.result.now ≡ codes "loop " ++ decimal c.in-Loop.n ++ codes " {" = search rules in
    let inner : PutsAll (texts c.put-in-Loop.new.page) (texts c.if-deep-gt0.page) (body_items parts c.args.deep c.in-Loop.body) = elim c.if-deep-gt0.branch [
      | put_action-then-deep-gt0+in_ok-put_body-in-Loop w ↦
          let one : suc (c.args.deep - 1) ≡ c.args.deep = let some = w.if-deep-gt0.true in omega arith in
          subst (λ page. PutsAll (texts c.put-in-Loop.new.page) (texts page) (body_items parts c.args.deep c.in-Loop.body)) (sym w.page-is)
          (subst (λ n. PutsAll (texts c.put-in-Loop.new.page) (texts w.put_body.new.page) (body_items parts n c.in-Loop.body)) one
          (subst (λ b. PutsAll (texts c.put-in-Loop.new.page) (texts w.put_body.new.page) (body_items parts (suc (c.args.deep - 1)) b)) (w.as_slice.ensures ∙ w.get.ensures) w.in_ok-put_body-in-Loop.ensures))
      | put_action-else-deep-gt0 w ↦
          let none : 0 ≡ c.args.deep = let some = w.if-deep-gt0.false in omega arith in
          subst (λ page. PutsAll (texts c.put-in-Loop.new.page) (texts page) (body_items parts c.args.deep c.in-Loop.body)) (sym w.page-is)
          (subst (λ n. PutsAll (texts c.put-in-Loop.new.page) (texts c.put-in-Loop.new.page) (body_items parts n c.in-Loop.body)) none
          (subst (PutsAll (texts c.put-in-Loop.new.page) (texts c.put-in-Loop.new.page)) (sym (body_items-zero parts c.in-Loop.body)) (puts_none (texts c.put-in-Loop.new.page))))
    ] in
    then_puts c.put-in-Loop-2.result (texts c.args.page.now) (texts c.if-deep-gt0.page) (texts c.put-in-Loop-2.new.page) _ _ _
    (puts_append (texts c.args.page.now) (texts c.put-in-Loop.new.page) (texts c.if-deep-gt0.page) _ _ c.in_ok-put-in-Loop.ensures inner) c.put-in-Loop-2.ensures
    (loop_is parts (body_items parts c.args.deep) c.args.line c.in-Loop.n c.in-Loop.end c.args.what.now c.in-Loop.body c.as_str-in-Loop.result.now c.in-Loop.is text)

pub put_body-loop-statement-preserved : goal.put_body-loop-statement-preserved
put_body-loop-statement-preserved t c =
    puts_more (statement_items c.args.parts.now c.args.deep) (texts c.args.page.now) (texts c.loop-statement.page) (texts c.put_action.new.page) c.args.body.now c.loop-statement.statement-index c.statement-item.result c.loop-statement-test.true
    c.statement-item.is c.loop-statement.invariant c.in_ok-put_action.ensures

pub put_body-returns : goal.put_body-returns
put_body-returns t c =
    subst (PutsAll (texts c.args.page.now) (texts c.loop-statement.page)) (sym (body_items-suc c.args.parts.now c.args.deep c.args.body.now))
    (puts_whole (statement_items c.args.parts.now c.args.deep) (texts c.args.page.now) (texts c.loop-statement.page) c.args.body.now c.loop-statement.statement-index c.loop-statement-test.false c.loop-statement.invariant)
