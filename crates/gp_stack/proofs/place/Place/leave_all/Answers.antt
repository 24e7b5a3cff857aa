use Rattle.std.proofs.Common.{◌<◌, Bool, refl, reverse, ◌∙◌, subst, arith}
use Rattle.std.specs.Bool.{OnTrue}
use Rattle.gp_stack.specs.kept.Cost.{cost}
use Rattle.gp_stack.specs.kept.Place.{levels, room}
use Rattle.gp_stack.proofs.Settle.{is_in, fit_left, left_end, falls_end}
use Rattle.gp_stack.proofs.place.Place.leave_all.Goals as goal

pub loop-init : goal.loop-init
loop-init c = record {
  place = is_in c.args.program.now c.args.self.now c.leave.new.self (levels c.leave.new.self) c.requires.place refl
      (fit_left c.args.program.now (room c.args.program.now) c.args.self.now.top (reverse c.args.self.now.outer.items) (levels c.leave.new.self) c.leave.result c.requires.place.fit c.leave.ensures.left c.leave.ensures.stays) c.leave.ensures.room;
  same = refl;
  less = omega arith;
}

pub returns-clause-left : goal.returns-clause-left
returns-clause-left c =
    c.leave_over.ensures.left ∙ c.loop.invariant.same ∙ left_end c.args.program.now c.args.self.now.top (reverse c.args.self.now.outer.items) (levels c.leave.new.self) c.leave.result c.requires.over c.leave.ensures.left c.leave.ensures.stays

pub returns-clause-falls : goal.returns-clause-falls
returns-clause-falls c =
    let first : OnTrue c.leave.result (cost c.args.program.now (levels c.leave.new.self) < cost c.args.program.now (levels c.args.self.now)) =
    falls_end c.args.program.now c.args.self.now.top (reverse c.args.self.now.outer.items) (levels c.leave.new.self) c.leave.result c.requires.over c.leave.ensures.left in
    let falls : cost c.args.program.now (levels c.leave.new.self) < cost c.args.program.now (levels c.args.self.now) =
    subst (λ (b : Bool). OnTrue b (cost c.args.program.now (levels c.leave.new.self) < cost c.args.program.now (levels c.args.self.now))) c.if-not-leave.false first in
    omega (arith, falls, c.leave_over.ensures.falls, c.loop.invariant.less)
