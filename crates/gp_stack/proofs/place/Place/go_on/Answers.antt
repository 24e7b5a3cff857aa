use Rattle.std.proofs.Common.{Bool, refl, reverse, subst, arith}
use Rattle.std.specs.Bool.{OnTrue}
use Rattle.gp_stack.specs.kept.Level.{left}
use Rattle.gp_stack.specs.kept.Place.{levels, IsSettled}
use Rattle.gp_stack.proofs.Passing.{passes_none, work_more}
use Rattle.gp_stack.proofs.place.Place.go_on.Goals as goal

pub loop-settled-init : goal.loop-settled-init
loop-settled-init c = record {
  place = c.requires;
  passes = passes_none c.args.program.now (levels c.args.self.now) (levels c.args.self.now) refl;
  few = omega arith;
  settled = tt;
}

pub loop-settled-preserved : goal.loop-settled-preserved
loop-settled-preserved c = record {
  place = c.cross_level-crossing.ensures.place;
  passes = work_more (left c.args.program.now (levels c.args.self.now)) (left c.args.program.now (levels c.loop-settled.self)) (left c.args.program.now (levels c.cross_level-crossing.new.self))
      c.loop-settled.passed c.cross_level-crossing.result.points c.loop-settled.invariant.passes c.cross_level-crossing.ensures.passes;
  few = omega (arith, c.loop-settled.invariant.few, c.cross_level-crossing.ensures.few);
  settled = c.cross_level-crossing.ensures.settled;
}

pub returns-clause-settled : goal.returns-clause-settled
returns-clause-settled c =
    subst (λ (b : Bool). OnTrue b (IsSettled c.args.program.now c.loop-settled.self.top (reverse c.loop-settled.self.outer.items))) c.loop-settled-test.false c.loop-settled.invariant.settled
