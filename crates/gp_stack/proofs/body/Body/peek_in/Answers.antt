use Rattle.gp_isa.specs.Trace.{trace}
use Rattle.gp_stack.proofs.Looking.{seen_is, body_work, body_labels, body_shared, body_over}
use Rattle.gp_stack.proofs.body.Body.peek_in.Goals as goal

pub returns-in-Work-clause-local : goal.returns-in-Work-clause-local
returns-in-Work-clause-local c =
    (seen_is (trace c.args.program.now c.args.self.now.start) c.args.self.now.count c.args.limit c.look_past.result
    (body_work c.args.program.now c.args.self.now c.in-Work.n c.args.limit c.look_local-first.result c.look_past.result c.in-Work.ensures.ahead c.requires.stands c.look_local-first.ensures.finds c.look_past.ensures)).0

pub returns-in-Work-clause-then : goal.returns-in-Work-clause-then
returns-in-Work-clause-then c =
    (seen_is (trace c.args.program.now c.args.self.now.start) c.args.self.now.count c.args.limit c.look_past.result
    (body_work c.args.program.now c.args.self.now c.in-Work.n c.args.limit c.look_local-first.result c.look_past.result c.in-Work.ensures.ahead c.requires.stands c.look_local-first.ensures.finds c.look_past.ensures)).1

pub returns-in-Labels-clause-local : goal.returns-in-Labels-clause-local
returns-in-Labels-clause-local c =
    (seen_is (trace c.args.program.now c.args.self.now.start) c.args.self.now.count c.args.limit c.look_past-in-Labels.result
    (body_labels c.args.program.now c.args.self.now c.in-Labels.field-0 c.args.limit c.look_local.result c.look_past-in-Labels.result c.in-Labels.ensures.ahead c.requires.stands c.look_local.ensures.finds c.look_past-in-Labels.ensures)).0

pub returns-in-Labels-clause-then : goal.returns-in-Labels-clause-then
returns-in-Labels-clause-then c =
    (seen_is (trace c.args.program.now c.args.self.now.start) c.args.self.now.count c.args.limit c.look_past-in-Labels.result
    (body_labels c.args.program.now c.args.self.now c.in-Labels.field-0 c.args.limit c.look_local.result c.look_past-in-Labels.result c.in-Labels.ensures.ahead c.requires.stands c.look_local.ensures.finds c.look_past-in-Labels.ensures)).1

pub returns-in-Shared-clause-local : goal.returns-in-Shared-clause-local
returns-in-Shared-clause-local c =
    (seen_is (trace c.args.program.now c.args.self.now.start) c.args.self.now.count c.args.limit _ (body_shared c.args.program.now c.args.self.now c.in-Shared.operation c.args.limit c.in-Shared.ensures.ahead c.requires.stands)).0

pub returns-in-Shared-clause-then : goal.returns-in-Shared-clause-then
returns-in-Shared-clause-then c =
    (seen_is (trace c.args.program.now c.args.self.now.start) c.args.self.now.count c.args.limit _ (body_shared c.args.program.now c.args.self.now c.in-Shared.operation c.args.limit c.in-Shared.ensures.ahead c.requires.stands)).1

pub returns-in-End-clause-local : goal.returns-in-End-clause-local
returns-in-End-clause-local c =
    (seen_is (trace c.args.program.now c.args.self.now.start) c.args.self.now.count c.args.limit _ (body_over c.args.program.now c.args.self.now c.args.limit c.in-End.ensures.ahead c.requires.stands)).0

pub returns-in-End-clause-then : goal.returns-in-End-clause-then
returns-in-End-clause-then c =
    (seen_is (trace c.args.program.now c.args.self.now.start) c.args.self.now.count c.args.limit _ (body_over c.args.program.now c.args.self.now c.args.limit c.in-End.ensures.ahead c.requires.stands)).1
