use Rattle.std.proofs.Common.{◌≡◌, ◌&&◌, true, length, is_none, is_some, nat_lt, sym, ap, ◌∙◌, arith}
use Rattle.std.proofs.lemmas.Bool.{lt-ltb}
use Rattle.gp_journal.specs.Run.{state_of}
use Rattle.gp_journal.specs.State.{worker}
use Rattle.gp_core.proofs.Workers.{workers_there, none_told}
use Rattle.gp_core.proofs.asks.is_idle.Goals as goal

pub returns : goal.returns
returns g c =
    let P = g.R.Run.program in let S = g.R.Run.settings in let s = state_of P S c.args.machine.now in let w = c.args.w in
    let number = workers_there P S c.args.machine.now c.requires.range c.journal.ensures.legal in
    let there : nat_lt w (length s.workers) ≡ true = lt-ltb w (length s.workers) (omega arith) in
    none_told c.is_none.result (is_some c.runs.result) c.is_none.ensures ∙ ap is_none c.runs.ensures ∙ sym (ap (λ b. b && is_none (worker s w).runs) there)
