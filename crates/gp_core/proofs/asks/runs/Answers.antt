use Rattle.std.proofs.Common.{◌≤◌, length, sym, ap, arith}
use Rattle.std.proofs.lemmas.List.{get_or_past}
use Rattle.gp_journal.specs.declared.goroutine.Worker.{Worker}
use Rattle.gp_journal.specs.Run.{state_of}
use Rattle.gp_journal.specs.State.{resting}
use Rattle.gp_core.specs.kept.Tests.{is_number}
use Rattle.gp_core.proofs.Workers.{workers_there}
use Rattle.gp_core.proofs.asks.runs.Goals as goal

pub returns-else-a-workers : goal.returns-else-a-workers
returns-else-a-workers g c =
    let P = g.R.Run.program in let S = g.R.Run.settings in let s = state_of P S c.args.machine.now in
    let number = workers_there P S c.args.machine.now c.requires.range c.journal.ensures.legal in
    let past : length s.workers ≤ c.args.a = omega arith in
    sym (ap (λ (v : Worker). is_number c.args.g v.runs) (get_or_past s.workers c.args.a resting past))
