use Rattle.std.proofs.Common.{refl, sym, ap, ◌∙◌}
use Rattle.gp_journal.specs.declared.settings.Settings.{Settings}
use Rattle.gp_journal.specs.State.{code_of}
use Rattle.gp_journal.specs.Run.{last}
use Rattle.gp_sim.proofs.Places.{able_all, able_busy}
use Rattle.gp_sim.proofs.actions.able.Goals as goal

pub returns-in-Some : goal.returns-in-Some
returns-in-Some g c =
    let now = last (code_of g.R.Run.program) g.R.Run.settings c.args.machine.now in
    ap (λ (s : Settings). s.workers) c.requires.settings
    ∙ able_all (code_of g.R.Run.program) g.R.Run.settings now (record { journal = c.args.machine.now; legal = c.journal.ensures.legal; its_last = refl }) c.requires.range _ (sym c.requires.head ∙ c.in-Some.is)

pub returns-in-None : goal.returns-in-None
returns-in-None g c =
    let now = last (code_of g.R.Run.program) g.R.Run.settings c.args.machine.now in
    c.busy.ensures ∙ able_busy (code_of g.R.Run.program) g.R.Run.settings now (sym c.requires.head ∙ c.in-None.is)
