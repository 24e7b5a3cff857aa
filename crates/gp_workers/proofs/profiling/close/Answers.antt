use Rattle.std.proofs.Common.{ap, sym, ◌∙◌, subst}
use Rattle.gp_journal.specs.Run.{IsLegal}
use Rattle.gp_journal.specs.State.{code_of}
use Rattle.gp_profiler.specs.Calls.{with_entry, closing_entry}
use Rattle.gp_world.specs.Scene.{Scene}
use Rattle.gp_workers.proofs.ProfilerKeeps.{closing_still, entered_leaves}
use Rattle.gp_workers.proofs.Turns.{entered_made}
use Rattle.gp_workers.proofs.Idling.{none_missing}
use Rattle.gp_workers.proofs.profiling.close.Goals as goal

pub returns-in-Closed-clause-world : goal.returns-in-Closed-clause-world
returns-in-Closed-clause-world g c =
    let it = c.close_profile-closing in
    entered_leaves g.R.Run.program g.R.Run.settings c.requires.range c.args.world.now it.new.world (closing_entry it.result) (closing_still it.result) it.ensures.scene c.machine.ensures.legal

pub returns-in-Closed-clause-entries : goal.returns-in-Closed-clause-entries
returns-in-Closed-clause-entries g c =
    let it = c.close_profile-closing in entered_made c.args.world.now it.new.world (closing_entry it.result) it.ensures.scene

pub returns-in-Missing-clause-went : goal.returns-in-Missing-clause-went
returns-in-Missing-clause-went g c =
    let code = code_of g.R.Run.program in let settings = g.R.Run.settings in let old = c.args.world.now in let it = c.close_profile-closing in
    let same = it.ensures.scene ∙ ap (λ closing. with_entry old (closing_entry closing)) c.in-Missing.is in
    let legal = subst (λ (w : Scene). IsLegal code settings w.journal) same c.machine.ensures.legal in
    absurd (none_missing code settings old.journal legal c.requires.active c.requires.recorded _ _ (sym c.in-Missing.is ∙ it.ensures.answer))
