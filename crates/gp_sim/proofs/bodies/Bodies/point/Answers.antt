use Rattle.std.proofs.Common.{get_or, arith}
use Rattle.gp_isa.specs.Trace.{trace}
use Rattle.gp_stack.proofs.Coming.{told, at_shared, not_local, not_over}
use Rattle.gp_journal.specs.Bodies.{nowhere}
use Rattle.gp_sim.proofs.bodies.Bodies.point.Goals as goal

pub returns-in-Shared : goal.returns-in-Shared
returns-in-Shared g c = λ shared.
    let p = get_or c.args.self.now c.args.g nowhere in
    let tells = told (trace g.R.Run.program p.start) p.count c.args.peek.local c.args.peek.then c.requires.then (let none = c.requires.local shared in omega arith) in
    (at_shared (trace g.R.Run.program p.start) p.count shared c.args.peek.then tells c.in-Shared.operation c.in-Shared.is, c.labels.ensures)

pub returns-in-Local : goal.returns-in-Local
returns-in-Local g c = λ shared.
    let p = get_or c.args.self.now c.args.g nowhere in
    let tells = told (trace g.R.Run.program p.start) p.count c.args.peek.local c.args.peek.then c.requires.then (let none = c.requires.local shared in omega arith) in
    not_local (trace g.R.Run.program p.start) p.count shared c.args.peek.then tells c.in-Local.is

pub returns-in-Over : goal.returns-in-Over
returns-in-Over g c = λ shared.
    let p = get_or c.args.self.now c.args.g nowhere in
    let tells = told (trace g.R.Run.program p.start) p.count c.args.peek.local c.args.peek.then c.requires.then (let none = c.requires.local shared in omega arith) in
    not_over (trace g.R.Run.program p.start) p.count shared c.args.peek.then tells c.in-Over.is
