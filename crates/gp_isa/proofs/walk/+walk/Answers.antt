use Rattle.std.proofs.Common.{◌≡◌, ◌<◌, ◌≤◌, ◌-◌, ◌+◌, ℕ, suc, List, length, drop, get_or, set, refl, sym, ap, ◌∙◌, subst, arith}
use Rattle.std.proofs.lemmas.List.{length-set}
use Rattle.gp_isa.specs.Nesting.{loops_in, loops_of}
use Rattle.gp_isa.specs.Trace.{Point, Send, Recv, Lock, Unlock, Spawn, points_of_body}
use Rattle.gp_isa.specs.Statement.{action, action_of, line_of, loop_body}
use Rattle.gp_isa.specs.declared.statement.Stmt.{Stmt}
use Rattle.gp_isa.specs.declared.statement.What.TheVariants as what
use Rattle.gp_isa.specs.kept.Sizes.{size_of, AreSizes}
use Rattle.gp_isa.specs.kept.Blocks.{no_base, IsSuffix, AddsBlock}
use Rattle.gp_isa.proofs.Actions.{action-loop}
use Rattle.gp_isa.proofs.Blocks.{Filled, filled_more, block_done, block_at, block_inside, grows_on, grows_set, grows_longer}
use Rattle.gp_isa.proofs.Points.{points_of_body-none, points_of_body-some, points_of_statement, points_at-loop, size_of-labels, size_of-shared, one_send, one_recv, one_lock, one_unlock, one_spawn}
use Rattle.gp_isa.proofs.Walks.{size_before, loops_before}
use Rattle.gp_isa.proofs.walk.+walk.Goals as goal

pub walk_body-loop-at-preserved : goal.walk_body-loop-at-preserved
walk_body-loop-at-preserved t c = record {
  grows = grows_set c.args.table.now.items c.walk_statement.new.table.items (c.in_ok-place.place + (c.loop-at.at - 1)) c.before-behind.result (omega (arith, c.loop-at.invariant.place))
      (grows_on c.args.table.now.items c.loop-at.table.items c.walk_statement.new.table.items c.loop-at.invariant.grows c.in_ok-here.ensures.grows);
  place = c.loop-at.invariant.place;
  room = omega (arith, length-set c.walk_statement.new.table.items (c.in_ok-place.place + (c.loop-at.at - 1)) c.before-behind.result, longer, c.loop-at.invariant.room);
  within = omega (arith, c.loop-at.invariant.within);
  behind = λ calls are. (both calls are).0;
  filled = λ calls are. (both calls are).1;
  sized = λ calls f are. size_before calls f c.args.deep c.args.body.now (c.loop-at.at - 1) c.loop-at.at c.index-body-at.result c.in_ok-here.here.size c.loop-at.size c.then-size.result (omega arith) there c.index-body-at.is
      c.then-size.ensures (sized calls f are) (c.loop-at.invariant.sized calls f are);
  nested = loops_before c.args.deep c.args.body.now (c.loop-at.at - 1) c.loop-at.at c.index-body-at.result c.in_ok-here.here.loops c.loop-at.loops c.max-loops.result (omega arith) there c.index-body-at.is (omega (arith, c.max-loops.ensures))
      (subst (λ (s : Stmt). c.in_ok-here.here.loops ≡ loops_of (loops_in c.args.deep) (action_of s)) (sym c.index-body-at.is) c.in_ok-here.ensures.loops) c.loop-at.invariant.nested;
  few = omega (arith, c.max-loops.ensures, c.loop-at.invariant.few, c.in_ok-here.ensures.few);
}
  where
    there : c.loop-at.at - 1 < length c.args.body.now
    there = omega (arith, c.loop-at.invariant.within)

    sized : (calls : ℕ → List Point) (f : ℕ) → AreSizes c.args.sizes.now calls → c.in_ok-here.here.size ≡ size_of (points_of_statement calls f c.args.deep c.index-body-at.result)
    sized calls f are =
        subst (λ (s : Stmt). c.in_ok-here.here.size ≡ size_of (points_of_statement calls f c.args.deep s)) (sym c.index-body-at.is)
        (c.in_ok-here.ensures.size calls f (line_of (get_or c.args.body.now (c.loop-at.at - 1) c.index-body-at.result)) are)

    longer : length c.loop-at.table.items ≤ length c.walk_statement.new.table.items
    longer = grows_longer c.loop-at.table.items c.walk_statement.new.table.items c.in_ok-here.ensures.grows

    both : (calls : ℕ → List Point) → AreSizes c.args.sizes.now calls → IsSuffix calls (suc c.args.deep) c.before-behind.result (drop (c.loop-at.at - 1) c.args.body.now) ×
        Filled calls (set c.walk_statement.new.table.items (c.in_ok-place.place + (c.loop-at.at - 1)) c.before-behind.result) c.args.deep c.in_ok-place.place c.args.body.now (c.loop-at.at - 1)
    both calls are =
        filled_more calls c.loop-at.table.items c.walk_statement.new.table.items
        (set c.walk_statement.new.table.items (c.in_ok-place.place + (c.loop-at.at - 1)) c.before-behind.result) c.args.deep c.in_ok-place.place c.args.body.now (c.loop-at.at - 1)
        c.loop-at.at c.index-body-at.result c.before-behind.result c.loop-at.behind (omega arith)
        c.in_ok-here.ensures.grows refl there c.loop-at.invariant.room c.index-body-at.is (c.loop-at.invariant.behind calls are)
        (λ rest. c.before-behind.ensures.sums calls c.args.deep c.index-body-at.result (drop c.loop-at.at c.args.body.now) rest (λ f. sized calls f are))
        (λ some. subst (λ n. AddsBlock calls c.loop-at.table.items c.walk_statement.new.table.items c.args.deep n (loop_body (action_of c.index-body-at.result))) (sym c.before-behind.ensures.inner)
        (subst (λ (s : Stmt). AddsBlock calls c.loop-at.table.items c.walk_statement.new.table.items c.args.deep c.in_ok-here.here.base (loop_body (action_of s))) (sym c.index-body-at.is)
        (c.in_ok-here.ensures.block (subst (λ n. n < no_base) c.before-behind.ensures.inner some) calls are)))
        (c.loop-at.invariant.filled calls are)

pub walk_body-returns-clause-block : goal.walk_body-returns-clause-block
walk_body-returns-clause-block t c some calls are =
    block_at calls c.args.table.now.items c.loop-at.table.items (suc c.args.deep) c.narrow-base.result c.in_ok-place.place c.args.body.now c.narrow-base.ensures some
    (block_done calls c.args.table.now.items c.loop-at.table.items c.args.deep c.in_ok-place.place c.args.body.now c.loop-at.invariant.place c.loop-at.invariant.room
    (subst (λ n. Filled calls c.loop-at.table.items c.args.deep c.in_ok-place.place c.args.body.now n) (omega (arith, c.loop-at-test.false)) (c.loop-at.invariant.filled calls are)))

pub walk_body-returns-clause-size : goal.walk_body-returns-clause-size
walk_body-returns-clause-size t c calls f are =
    let first : c.loop-at.at ≡ 0 = omega (arith, c.loop-at-test.false) in
    subst (λ n. c.loop-at.size ≡ size_of (points_of_body calls f (suc c.args.deep) (drop n c.args.body.now))) first (c.loop-at.invariant.sized calls f are)

pub walk_body-returns-clause-loops : goal.walk_body-returns-clause-loops
walk_body-returns-clause-loops t c =
    let first : c.loop-at.at ≡ 0 = omega (arith, c.loop-at-test.false) in
    subst (λ n. c.loop-at.loops ≡ loops_in (suc c.args.deep) (drop n c.args.body.now)) first c.loop-at.invariant.nested

pub walk_statement-returns-then-deep-eq0-clause-size : goal.walk_statement-returns-then-deep-eq0-clause-size
walk_statement-returns-then-deep-eq0-clause-size t c calls f line are =
    c.repeated.ensures (points_of_body calls f c.args.deep c.in-Loop.body) (c.none.ensures ∙ ap size_of (sym (points_of_body-none calls f c.args.deep c.in-Loop.body c.if-deep-eq0.true))) ∙
    sym (ap size_of (points_at-loop calls f (points_of_body calls f c.args.deep) line c.args.what.now c.in-Loop.n c.in-Loop.body c.in-Loop.end c.in-Loop.is))

pub walk_statement-returns-in_ok-once-in-Loop-clause-size : goal.walk_statement-returns-in_ok-once-in-Loop-clause-size
walk_statement-returns-in_ok-once-in-Loop-clause-size t c calls f line are =
    c.repeated-in-Loop.ensures (points_of_body calls f c.args.deep c.in-Loop.body) (c.in_ok-once-in-Loop.ensures.size calls f are ∙
    ap (λ body. size_of (points_of_body calls f (suc (c.args.deep - 1)) body)) (c.as_slice.ensures ∙ c.get.ensures) ∙
    ap size_of (sym (points_of_body-some calls f c.args.deep c.in-Loop.body c.if-deep-eq0.false))) ∙
    sym (ap size_of (points_at-loop calls f (points_of_body calls f c.args.deep) line c.args.what.now c.in-Loop.n c.in-Loop.body c.in-Loop.end c.in-Loop.is))

pub walk_statement-returns-in_ok-once-in-Loop-clause-block : goal.walk_statement-returns-in_ok-once-in-Loop-clause-block
walk_statement-returns-in_ok-once-in-Loop-clause-block t c some calls are =
    block_inside calls c.args.table.now.items c.walk_body.new.table.items c.args.deep c.in_ok-once-in-Loop.once.base c.in-Loop.n c.in-Loop.end c.in-Loop.body c.args.what.now c.if-deep-eq0.false c.in-Loop.is
    (subst (λ body. AddsBlock calls c.args.table.now.items c.walk_body.new.table.items (suc (c.args.deep - 1)) c.in_ok-once-in-Loop.once.base body) (c.as_slice.ensures ∙ c.get.ensures) (c.in_ok-once-in-Loop.ensures.block some calls are))

pub walk_statement-returns-in_ok-once-in-Loop-clause-loops : goal.walk_statement-returns-in_ok-once-in-Loop-clause-loops
walk_statement-returns-in_ok-once-in-Loop-clause-loops t c =
    let one : suc (c.args.deep - 1) ≡ c.args.deep = omega arith in
    ap (λ k. k + 1) (c.in_ok-once-in-Loop.ensures.loops ∙ ap (loops_in (suc (c.args.deep - 1))) (c.as_slice.ensures ∙ c.get.ensures) ∙ ap (λ d. loops_in d c.in-Loop.body) one) ∙
    sym (ap (λ w. loops_of (loops_in c.args.deep) (action w)) c.in-Loop.is ∙ ap (loops_of (loops_in c.args.deep)) (action-loop c.in-Loop.n c.in-Loop.body c.in-Loop.end))

pub walk_statement-returns-in-Send-clause-size : goal.walk_statement-returns-in-Send-clause-size
walk_statement-returns-in-Send-clause-size t c calls f line are =
    c.flat-in-Send.ensures.size ∙
    size_of-shared calls f (points_of_body calls f c.args.deep) line c.args.what.now (what.Send c.in-Send.c) c.shared.result (Send c.in-Send.c) (c.shared.ensures f line (Send c.in-Send.c) refl) c.in-Send.is
    (one_send calls f (points_of_body calls f c.args.deep) line c.in-Send.c)

pub walk_statement-returns-in-Recv-clause-size : goal.walk_statement-returns-in-Recv-clause-size
walk_statement-returns-in-Recv-clause-size t c calls f line are =
    c.flat-in-Recv.ensures.size ∙
    size_of-shared calls f (points_of_body calls f c.args.deep) line c.args.what.now (what.Recv c.in-Recv.c) c.shared-in-Recv.result (Recv c.in-Recv.c) (c.shared-in-Recv.ensures f line (Recv c.in-Recv.c) refl) c.in-Recv.is
    (one_recv calls f (points_of_body calls f c.args.deep) line c.in-Recv.c)

pub walk_statement-returns-in-Lock-clause-size : goal.walk_statement-returns-in-Lock-clause-size
walk_statement-returns-in-Lock-clause-size t c calls f line are =
    c.flat-in-Lock.ensures.size ∙
    size_of-shared calls f (points_of_body calls f c.args.deep) line c.args.what.now (what.Lock c.in-Lock.m) c.shared-in-Lock.result (Lock c.in-Lock.m) (c.shared-in-Lock.ensures f line (Lock c.in-Lock.m) refl) c.in-Lock.is
    (one_lock calls f (points_of_body calls f c.args.deep) line c.in-Lock.m)

pub walk_statement-returns-in-Unlock-clause-size : goal.walk_statement-returns-in-Unlock-clause-size
walk_statement-returns-in-Unlock-clause-size t c calls f line are =
    c.flat-in-Unlock.ensures.size ∙
    size_of-shared calls f (points_of_body calls f c.args.deep) line c.args.what.now (what.Unlock c.in-Unlock.m) c.shared-in-Unlock.result (Unlock c.in-Unlock.m) (c.shared-in-Unlock.ensures f line (Unlock c.in-Unlock.m) refl) c.in-Unlock.is
    (one_unlock calls f (points_of_body calls f c.args.deep) line c.in-Unlock.m)

pub walk_statement-returns-in-Spawn-clause-size : goal.walk_statement-returns-in-Spawn-clause-size
walk_statement-returns-in-Spawn-clause-size t c calls f line are =
    c.flat-in-Spawn.ensures.size ∙
    size_of-shared calls f (points_of_body calls f c.args.deep) line c.args.what.now (what.Spawn c.in-Spawn.f) c.shared-in-Spawn.result (Spawn c.in-Spawn.f) (c.shared-in-Spawn.ensures f line (Spawn c.in-Spawn.f) refl) c.in-Spawn.is
    (one_spawn calls f (points_of_body calls f c.args.deep) line c.in-Spawn.f)

pub walk_statement-returns-in-Labels-clause-size : goal.walk_statement-returns-in-Labels-clause-size
walk_statement-returns-in-Labels-clause-size t c calls f line are =
    c.flat-in-Labels.ensures.size ∙ size_of-labels calls f (points_of_body calls f c.args.deep) line c.args.what.now c.labels.result c.in-Labels.s (c.labels.ensures f line c.in-Labels.s) c.in-Labels.is
