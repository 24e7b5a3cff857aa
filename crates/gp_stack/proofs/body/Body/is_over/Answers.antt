use Rattle.std.proofs.Common.{◌≤◌, sym, arith}
use Rattle.gp_isa.specs.Trace.{trace}
use Rattle.gp_stack.proofs.Coming.{told, over_ended, local_going, shared_going}
use Rattle.gp_stack.proofs.body.Body.is_over.Goals as goal

pub returns-in-Over : goal.returns-in-Over
returns-in-Over c =
    let none : c.peek.result.local ≤ 0 = let few = c.peek.ensures.local in omega arith in
    sym (over_ended (trace c.args.program.now c.args.self.now.start) c.args.self.now.count c.peek.result.then
    (told (trace c.args.program.now c.args.self.now.start) c.args.self.now.count c.peek.result.local c.peek.result.then c.peek.ensures.then none) c.in-Over.is)

pub returns-in-Local : goal.returns-in-Local
returns-in-Local c =
    let none : c.peek.result.local ≤ 0 = let few = c.peek.ensures.local in omega arith in
    sym (local_going (trace c.args.program.now c.args.self.now.start) c.args.self.now.count c.peek.result.then
    (told (trace c.args.program.now c.args.self.now.start) c.args.self.now.count c.peek.result.local c.peek.result.then c.peek.ensures.then none) c.in-Local.is)

pub returns-in-Shared : goal.returns-in-Shared
returns-in-Shared c =
    let none : c.peek.result.local ≤ 0 = let few = c.peek.ensures.local in omega arith in
    sym (shared_going (trace c.args.program.now c.args.self.now.start) c.args.self.now.count c.peek.result.then _
    (told (trace c.args.program.now c.args.self.now.start) c.args.self.now.count c.peek.result.local c.peek.result.then c.peek.ensures.then none) c.in-Shared.is)
