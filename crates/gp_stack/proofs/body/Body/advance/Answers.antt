use Rattle.std.proofs.Common.{◌≡◌, ◌+◌, ap, ◌∙◌, arith}
use Rattle.gp_stack.proofs.Stands.{ahead_moved}
use Rattle.gp_stack.proofs.body.Body.advance.Goals as goal

pub loop-left-preserved : goal.loop-left-preserved
loop-left-preserved c =
    let count : c.advance_some-left.new.self.count ≡ c.loop-left.self.count + c.advance_some-left.result = ap (λ p. p.count) c.advance_some-left.ensures.progress in
    let start : c.advance_some-left.new.self.start ≡ c.loop-left.self.start = ap (λ p. p.start) c.advance_some-left.ensures.progress in
    let set : c.advance_some-left.new.self.set ≡ c.loop-left.self.set = ap (λ p. p.set) c.advance_some-left.ensures.progress in
    record {
      stands = c.advance_some-left.ensures.stands;
      start = start ∙ c.loop-left.invariant.start;
      set = set ∙ c.loop-left.invariant.set;
      count = omega (arith, c.loop-left.invariant.count, c.advance_some-left.ensures.within);
      ahead = ahead_moved c.args.program.now c.loop-left.self c.advance_some-left.new.self c.loop-left.left c.advance_some-left.result start count c.advance_some-left.ensures.within c.loop-left.invariant.ahead;
    }
