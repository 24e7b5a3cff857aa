use Rattle.std.proofs.Common.{◌≤◌, List, length, refl, reverse, subst}
use Rattle.gp_isa.specs.declared.statement.Stmt.{Stmt}
use Rattle.gp_stack.specs.kept.Level.{body_at}
use Rattle.gp_stack.specs.kept.Place.{levels, room}
use Rattle.gp_stack.proofs.Settle.{is_in, fit_left, left_end, falls_end, falls_most}
use Rattle.gp_stack.proofs.place.Place.leave_over.Goals as goal

pub returns-clause-place : goal.returns-clause-place
returns-clause-place c =
    is_in c.args.program.now c.args.self.now c.leave.new.self (levels c.leave.new.self) c.requires refl
    (fit_left c.args.program.now (room c.args.program.now) c.args.self.now.top (reverse c.args.self.now.outer.items) (levels c.leave.new.self) c.leave.result c.requires.fit c.leave.ensures.left c.leave.ensures.stays) c.leave.ensures.room

pub returns-clause-left : goal.returns-clause-left
returns-clause-left c =
    let over : length (body_at c.args.program.now c.args.self.now.top (reverse c.args.self.now.outer.items)) ≤ c.args.self.now.top.at =
    subst (λ (body : List Stmt). length body ≤ c.args.self.now.top.at) c.here.ensures.statements c.if-self-here.false in
    left_end c.args.program.now c.args.self.now.top (reverse c.args.self.now.outer.items) (levels c.leave.new.self) c.leave.result over c.leave.ensures.left c.leave.ensures.stays

pub returns-clause-less : goal.returns-clause-less
returns-clause-less c =
    let over : length (body_at c.args.program.now c.args.self.now.top (reverse c.args.self.now.outer.items)) ≤ c.args.self.now.top.at =
    subst (λ (body : List Stmt). length body ≤ c.args.self.now.top.at) c.here.ensures.statements c.if-self-here.false in
    falls_end c.args.program.now c.args.self.now.top (reverse c.args.self.now.outer.items) (levels c.leave.new.self) c.leave.result over c.leave.ensures.left

pub returns-clause-falls : goal.returns-clause-falls
returns-clause-falls c =
    let over : length (body_at c.args.program.now c.args.self.now.top (reverse c.args.self.now.outer.items)) ≤ c.args.self.now.top.at =
    subst (λ (body : List Stmt). length body ≤ c.args.self.now.top.at) c.here.ensures.statements c.if-self-here.false in
    falls_most c.args.program.now c.args.self.now.top (reverse c.args.self.now.outer.items) (levels c.leave.new.self) c.leave.result over c.leave.ensures.left c.leave.ensures.stays
