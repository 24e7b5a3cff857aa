use Rattle.std.proofs.Common.{◌≡◌, ◌≤◌, ◌<◌, ◌+◌, ◌-◌, reverse, length, arith}
use Rattle.gp_isa.specs.Trace.{trace}
use Rattle.gp_isa.specs.declared.statement.What.TheOpen.{Call}
use Rattle.gp_stack.specs.Goroutine.{local_ahead}
use Rattle.gp_stack.proofs.Stands.{settled_point, within_ahead, stands_work, stands_part, stands_labels, no_local_shared, no_local_over}
use Rattle.gp_stack.proofs.body.Body.advance_in.Goals as goal

pub overflow_add-self-then-n-left : goal.overflow_add-self-then-n-left
overflow_add-self-then-n-left c =
    let w : c.args.self.now.count + c.args.n ≤ length (trace c.args.program.now c.args.self.now.start) = within_ahead (trace c.args.program.now c.args.self.now.start) c.args.self.now.count c.args.n c.requires.stands.within c.requires.ahead in
    omega arith

pub overflow_add-self-else-n-left-2 : goal.overflow_add-self-else-n-left-2
overflow_add-self-else-n-left-2 c =
    let w : c.args.self.now.count + c.args.n ≤ length (trace c.args.program.now c.args.self.now.start) = within_ahead (trace c.args.program.now c.args.self.now.start) c.args.self.now.count c.args.n c.requires.stands.within c.requires.ahead in
    omega (arith, c.pass-behind.ensures.few)

pub overflow_add-self-in-Labels-2 : goal.overflow_add-self-in-Labels-2
overflow_add-self-in-Labels-2 c =
    let w : c.args.self.now.count + c.args.n ≤ length (trace c.args.program.now c.args.self.now.start) = within_ahead (trace c.args.program.now c.args.self.now.start) c.args.self.now.count c.args.n c.requires.stands.within c.requires.ahead in
    omega (arith, c.pass-behind-in-Labels.ensures.few)

pub unreachable-requires : goal.unreachable-requires
unreachable-requires c =
    let none : local_ahead (trace c.args.program.now c.args.self.now.start) c.args.self.now.count ≡ 0 = no_local_over c.args.program.now c.args.self.now c.in-End.ensures.ahead c.requires.stands in
    omega arith

pub unreachable-requires-in-Loop : goal.unreachable-requires-in-Loop
unreachable-requires-in-Loop c =
    settled_point c.args.program.now c.args.self.now.place.top (reverse c.args.self.now.place.outer.items) _ c.requires.stands.settled c.in-Loop.ensures.ahead.1

pub unreachable-requires-in-Call : goal.unreachable-requires-in-Call
unreachable-requires-in-Call c =
    settled_point c.args.program.now c.args.self.now.place.top (reverse c.args.self.now.place.outer.items) (Call c.in-Call.field-0) c.requires.stands.settled c.in-Call.ensures.ahead

pub unreachable-requires-in-Shared : goal.unreachable-requires-in-Shared
unreachable-requires-in-Shared c =
    let none : local_ahead (trace c.args.program.now c.args.self.now.start) c.args.self.now.count ≡ 0 = no_local_shared c.args.program.now c.args.self.now c.in-Shared.field-0 c.in-Shared.ensures.ahead c.requires.stands in
    omega arith

pub returns-then-n-left-clause-stands : goal.returns-then-n-left-clause-stands
returns-then-n-left-clause-stands c =
    stands_part c.args.program.now c.args.self.now c.in-Work.of c.args.n c.in-Work.ensures.ahead c.requires.stands (omega arith)
    (within_ahead (trace c.args.program.now c.args.self.now.start) c.args.self.now.count c.args.n c.requires.stands.within c.requires.ahead)

pub returns-else-n-left-clause-stands : goal.returns-else-n-left-clause-stands
returns-else-n-left-clause-stands c =
    let w : c.args.self.now.count + c.args.n ≤ length (trace c.args.program.now c.args.self.now.start) = within_ahead (trace c.args.program.now c.args.self.now.start) c.args.self.now.count c.args.n c.requires.stands.within c.requires.ahead in
    let part : c.args.self.now.passed < c.in-Work.of = c.requires.stands.part _ c.in-Work.ensures.ahead in
    stands_work c.args.program.now c.args.self.now c.pass-behind.new.self c.in-Work.of (c.in-Work.of - c.args.self.now.passed) c.pass-behind.result
    c.in-Work.ensures.ahead c.requires.stands c.pass-behind.ensures.place c.pass-behind.ensures.passes c.pass-behind.ensures.settled (omega arith)
    (omega (arith, c.pass-behind.ensures.few))

pub returns-in-Labels-clause-stands : goal.returns-in-Labels-clause-stands
returns-in-Labels-clause-stands c =
    let w : c.args.self.now.count + c.args.n ≤ length (trace c.args.program.now c.args.self.now.start) = within_ahead (trace c.args.program.now c.args.self.now.start) c.args.self.now.count c.args.n c.requires.stands.within c.requires.ahead in
    stands_labels c.args.program.now c.args.self.now c.pass-behind-in-Labels.new.self c.in-Labels.set c.pass-behind-in-Labels.result
    c.in-Labels.ensures.ahead c.requires.stands c.pass-behind-in-Labels.ensures.place c.pass-behind-in-Labels.ensures.passes c.pass-behind-in-Labels.ensures.settled
    (omega (arith, c.pass-behind-in-Labels.ensures.few))
