use Rattle.std.proofs.Common.{◌≢◌, ◌<◌, ◌+◌, ◌-◌, ◌%◌, sym, arith}
use Rattle.std.proofs.lemmas.Bool.{ne_eqb}
use Rattle.gp_machine.proofs.Ticks.{before_tick}
use Rattle.gp_machine.proofs.workers.count_down.Goals as goal

pub returns-then-n-left-clause-left : goal.returns-then-n-left-clause-left
returns-then-n-left-clause-left c =
    let few : c.args.n < c.args.period - c.args.instructions % c.args.period = let e = c.requires.left in let below = c.if-n-left.true in omega arith in
    let less = before_tick c.args.period c.args.instructions c.args.n c.requires.some few in
    let e = c.requires.left in omega arith

pub returns-then-n-left-clause-comes : goal.returns-then-n-left-clause-comes
returns-then-n-left-clause-comes c =
    let few : c.args.n < c.args.period - c.args.instructions % c.args.period = let e = c.requires.left in let below = c.if-n-left.true in omega arith in
    let less = before_tick c.args.period c.args.instructions c.args.n c.requires.some few in
    let apart : (c.args.instructions + c.args.n) % c.args.period ≢ 0 = λ none. let some = c.if-n-gt0.true in omega arith in
    sym (ne_eqb ((c.args.instructions + c.args.n) % c.args.period) 0 apart)
