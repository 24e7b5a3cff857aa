use Rattle.std.proofs.Common.{sym, ◌∙◌}
use Rattle.gp_journal.specs.Run.{state_of}
use Rattle.gp_profiler.specs.Calls.{opening_entry}
use Rattle.gp_workers.proofs.ProfilerKeeps.{opening_still, entered_leaves}
use Rattle.gp_workers.proofs.Turns.{entered_made}
use Rattle.gp_workers.proofs.Idling.{not_stopped}
use Rattle.gp_workers.proofs.profiling.open.Goals as goal

pub returns-in-Opened-clause-world : goal.returns-in-Opened-clause-world
returns-in-Opened-clause-world g c =
    let it = c.open_profile-opening in
    entered_leaves g.R.Run.program g.R.Run.settings c.requires.range c.args.world.now it.new.world (opening_entry g.R.Run.settings it.result) (opening_still g.R.Run.settings it.result) it.ensures.scene c.machine.ensures.legal

pub returns-in-TooSmall-clause-world : goal.returns-in-TooSmall-clause-world
returns-in-TooSmall-clause-world g c =
    let it = c.open_profile-opening in
    entered_leaves g.R.Run.program g.R.Run.settings c.requires.range c.args.world.now it.new.world (opening_entry g.R.Run.settings it.result) (opening_still g.R.Run.settings it.result) it.ensures.scene c.machine.ensures.legal

pub returns-in-Opened-clause-entries : goal.returns-in-Opened-clause-entries
returns-in-Opened-clause-entries g c =
    let it = c.open_profile-opening in entered_made c.args.world.now it.new.world (opening_entry g.R.Run.settings it.result) it.ensures.scene

pub returns-in-TooSmall-clause-entries : goal.returns-in-TooSmall-clause-entries
returns-in-TooSmall-clause-entries g c =
    let it = c.open_profile-opening in entered_made c.args.world.now it.new.world (opening_entry g.R.Run.settings it.result) it.ensures.scene

pub returns-in-NotStopped-clause-idle : goal.returns-in-NotStopped-clause-idle
returns-in-NotStopped-clause-idle g c = λ idle.
    not_stopped g.R.Run.settings (state_of g.R.Run.program g.R.Run.settings c.args.world.now.journal) _ (sym c.in-NotStopped.is ∙ c.open_profile-opening.ensures.answer)
