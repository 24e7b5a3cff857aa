use Rattle.std.proofs.Common.{◌≤◌, ◌+◌, reverse, length, arith}
use Rattle.gp_isa.specs.Trace.{trace}
use Rattle.gp_isa.specs.declared.statement.What.TheOpen.{Call}
use Rattle.gp_stack.specs.kept.Place.{levels, stepped}
use Rattle.gp_stack.proofs.Passing.{none_passed}
use Rattle.gp_stack.proofs.Stands.{settled_point, stands_shared, within_shared, no_end, no_work, no_labels}
use Rattle.gp_stack.proofs.body.Body.pass_in.Goals as goal

pub overflow_add-self : goal.overflow_add-self
overflow_add-self c =
    let w : c.args.self.now.count + 1 ≤ length (trace c.args.program.now c.args.self.now.start) = within_shared (trace c.args.program.now c.args.self.now.start) c.args.self.now.count c.requires.shared in
    omega arith

pub unreachable-requires : goal.unreachable-requires
unreachable-requires c = no_end c.args.program.now c.args.self.now c.in-End.ensures.ahead c.requires.stands c.requires.shared

pub unreachable-requires-in-Work : goal.unreachable-requires-in-Work
unreachable-requires-in-Work c = no_work c.args.program.now c.args.self.now c.in-Work.field-0 c.in-Work.ensures.ahead c.requires.stands c.requires.shared

pub unreachable-requires-in-Labels : goal.unreachable-requires-in-Labels
unreachable-requires-in-Labels c = no_labels c.args.program.now c.args.self.now c.in-Labels.field-0 c.in-Labels.ensures.ahead c.requires.stands c.requires.shared

pub unreachable-requires-in-Loop : goal.unreachable-requires-in-Loop
unreachable-requires-in-Loop c =
    settled_point c.args.program.now c.args.self.now.place.top (reverse c.args.self.now.place.outer.items) _ c.requires.stands.settled c.in-Loop.ensures.ahead.1

pub unreachable-requires-in-Call : goal.unreachable-requires-in-Call
unreachable-requires-in-Call c =
    settled_point c.args.program.now c.args.self.now.place.top (reverse c.args.self.now.place.outer.items) (Call c.in-Call.field-0) c.requires.stands.settled c.in-Call.ensures.ahead

pub returns-clause-stands : goal.returns-clause-stands
returns-clause-stands c =
    stands_shared c.args.program.now c.args.self.now c.pass.new.self c.in-Shared.field-0 c.in-Shared.ensures.ahead c.requires.stands c.pass.ensures.place
    (none_passed c.args.program.now (stepped (levels c.args.self.now.place)) (levels c.pass.new.self) c.pass.result c.pass.ensures.passes c.pass.ensures.few) c.pass.ensures.settled
    (within_shared (trace c.args.program.now c.args.self.now.start) c.args.self.now.count c.requires.shared)
