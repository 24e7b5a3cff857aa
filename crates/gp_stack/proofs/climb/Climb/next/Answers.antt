use Rattle.std.proofs.Common.{rules, ◌≤◌, ◌-◌, nat_eq, length, arith, ◌∙◌, ap, sym, ◌∷◌}
use Rattle.gp_stack.specs.kept.Climb.{frames_left}
use Rattle.gp_stack.proofs.Climbing.{climb_called, climb_looped, climb_over}
use Rattle.gp_stack.proofs.climb.Climb.next.Goals as goal

pub returns-then-called-clause-frames : goal.returns-then-called-clause-frames
returns-then-called-clause-frames c =
    let w : c.loop-self.self.level ≤ length c.args.place.now.outer.items = search rules in
    c.loop-self.invariant.same ∙ (climb_called c.args.program.now c.args.place.now c.loop-self.self c.index-level.result.now c.if-called.true (omega arith) w c.index-level.ensures ∙
    ap (λ frame. frame ∷ frames_left c.args.program.now c.args.place.now (record { level = c.loop-self.self.level - 1; called = nat_eq c.index-level.result.now.loops 8 })) (sym c.caller.ensures))

pub loop-self-preserved : goal.loop-self-preserved
loop-self-preserved c =
    let w : c.loop-self.self.level ≤ length c.args.place.now.outer.items = search rules in
    record {
      within = omega arith;
      same = c.loop-self.invariant.same ∙ climb_looped c.args.program.now c.args.place.now c.loop-self.self c.index-level.result.now c.if-called.false (omega arith) w c.index-level.ensures;
    }

pub returns-clause-frames : goal.returns-clause-frames
returns-clause-frames c =
    c.loop-self.invariant.same ∙ climb_over c.args.program.now c.args.place.now c.loop-self.self (omega arith)
