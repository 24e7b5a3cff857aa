use Rattle.std.proofs.Common.{Some, ap, ◌∙◌, arith}
use Rattle.gp_journal.specs.declared.goroutine.Goroutine.{Goroutine}
use Rattle.gp_journal.specs.State.{code_of}
use Rattle.gp_stack.specs.declared.statement.Operation.TheVariants as operation
use Rattle.gp_journal.proofs.Lemmas.{has_come, clock_fits}
use Rattle.gp_machine.proofs.Acting.{is_there}
use Rattle.gp_machine.proofs.present.Present.foresees.Goals as goal

pub block_delay-requires : goal.block_delay-requires
block_delay-requires g c =
    let woken = (has_come (code_of g.R.Run.program) g.R.Run.settings c.args.self.now c.requires.reached c.args.g).woken in
    let clock = clock_fits (code_of g.R.Run.program) g.R.Run.settings c.args.self.now c.requires.reached c.is_granted.ensures.in_range in
    let same = ap (λ (x : Goroutine). x.woken) c.goroutine.ensures in
    omega (arith, woken, clock, same)

pub contention-contended-requires-clause-there : goal.contention-contended-requires-clause-there
contention-contended-requires-clause-there g c =
    is_there g.R.Run.program g.R.Run.settings c.args.self.now c.requires.reached c.is_granted.ensures.in_range c.args.g (operation.Unlock c.in-Unlock.m)
    c.is_granted.ensures.in_limits (c.requires.operation ∙ ap Some c.in-Unlock.is)

pub contention-contended-requires-clause-clock : goal.contention-contended-requires-clause-clock
contention-contended-requires-clause-clock g c = clock_fits (code_of g.R.Run.program) g.R.Run.settings c.args.self.now c.requires.reached c.is_granted.ensures.in_range
