use Rattle.std.proofs.Common.{◌≡◌, ◌≤◌, ◌-◌, refl, ap, ◌∙◌, arith}
use Rattle.gp_stack.specs.kept.Level.{left}
use Rattle.gp_stack.specs.kept.Place.{levels}
use Rattle.gp_stack.specs.kept.Cost.{cost}
use Rattle.gp_stack.proofs.Passing.{passes_none, passes_to, work_more}
use Rattle.gp_stack.proofs.place.Place.cross.Goals as goal

pub loop-n-init : goal.loop-n-init
loop-n-init c = record {
  place = c.requires.place;
  here = c.requires.here;
  passes = passes_none c.args.program.now (levels c.args.self.now) (levels c.args.self.now) refl;
  few = omega arith;
  falls = omega arith;
}

pub loop-n-preserved : goal.loop-n-preserved
loop-n-preserved c = record {
  place = c.move_within.ensures.place;
  here = c.move_within.ensures.here;
  passes = work_more (left c.args.program.now (levels c.args.self.now)) (left c.args.program.now (levels c.loop-n.self)) (left c.args.program.now (levels c.move_within.new.self)) c.loop-n.points c.in-Some.n c.loop-n.invariant.passes c.in-Some.ensures.passes;
  few = let more : c.in-Some.n ≤ c.args.most - c.loop-n.points = c.in-Some.ensures.few in omega (arith, c.loop-n.invariant.few);
  falls = omega (arith, c.loop-n.invariant.falls, c.in-Some.ensures.falls);
}

pub returns-then-moved-clause-passes : goal.returns-then-moved-clause-passes
returns-then-moved-clause-passes c =
    passes_to c.args.program.now (levels c.args.self.now) (levels c.loop-n.self) (levels c.step-moved.new.self) c.loop-n.points (c.step-moved.ensures.left ∙ ap (left c.args.program.now) c.in_default.ensures.passes) c.loop-n.invariant.passes

pub returns-clause-passes : goal.returns-clause-passes
returns-clause-passes c =
    passes_to c.args.program.now (levels c.args.self.now) (levels c.loop-n.self) (levels c.step-moved.new.self) c.loop-n.points (c.step-moved.ensures.left ∙ ap (left c.args.program.now) c.in_default.ensures.passes) c.loop-n.invariant.passes
