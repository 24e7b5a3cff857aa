use Rattle.std.proofs.Common.{refl, sym, ◌∙◌, arith}
use Rattle.gp_journal.specs.State.{code_of}
use Rattle.gp_journal.specs.Run.{last}
use Rattle.gp_sim.proofs.Places.{at_all, at_busy, able_busy}
use Rattle.gp_sim.proofs.actions.able_at.Goals as goal

pub returns-in-Some : goal.returns-in-Some
returns-in-Some g c =
    let now = last (code_of g.R.Run.program) g.R.Run.settings c.args.machine.now in
    at_all (code_of g.R.Run.program) g.R.Run.settings now (record { journal = c.args.machine.now; legal = c.journal.ensures.legal; its_last = refl }) c.requires.range _ c.args.place
    (sym c.requires.head ∙ c.in-Some.is) c.requires.there

pub busy_at-requires : goal.busy_at-requires
busy_at-requires g c =
    let now = last (code_of g.R.Run.program) g.R.Run.settings c.args.machine.now in
    let same = able_busy (code_of g.R.Run.program) g.R.Run.settings now (sym c.requires.head ∙ c.in-None.is) in
    let there = c.requires.there in omega arith

pub returns-in-None : goal.returns-in-None
returns-in-None g c =
    let now = last (code_of g.R.Run.program) g.R.Run.settings c.args.machine.now in
    at_busy (code_of g.R.Run.program) g.R.Run.settings now c.args.place c.busy_at.result (sym c.requires.head ∙ c.in-None.is) c.busy_at.ensures
