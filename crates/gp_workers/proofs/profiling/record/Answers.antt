use Rattle.std.proofs.Common.{rules, ◌≡◌, ap, sym, ◌∙◌}
use Rattle.gp_journal.specs.Run.{state_of}
use Rattle.gp_profiler.specs.Calls.{recording_entry, recording_of}
use Rattle.gp_workers.proofs.ProfilerKeeps.{recording_still, entered_leaves}
use Rattle.gp_workers.proofs.Turns.{entered_made}
use Rattle.gp_workers.proofs.Idling.{none_already}
use Rattle.gp_workers.proofs.profiling.record.Goals as goal

pub returns-in-Recorded-clause-world : goal.returns-in-Recorded-clause-world
returns-in-Recorded-clause-world g c =
    let it = c.record_one-recording in let who = c.args.who.now.number in let copy = c.in_ok-copy.copy.g in
    entered_leaves g.R.Run.program g.R.Run.settings c.requires.range c.args.world.now it.new.world (recording_entry who copy it.result) (recording_still who copy it.result) it.ensures.scene c.machine.ensures.legal

pub returns-in-Recorded-clause-entries : goal.returns-in-Recorded-clause-entries
returns-in-Recorded-clause-entries g c =
    let it = c.record_one-recording in let who = c.args.who.now.number in let copy = c.in_ok-copy.copy.g in entered_made c.args.world.now it.new.world (recording_entry who copy it.result) it.ensures.scene

pub returns-in-Already-clause-went : goal.returns-in-Already-clause-went
returns-in-Already-clause-went g c =
    let state = state_of g.R.Run.program g.R.Run.settings c.args.world.now.journal in
    let same : c.in_ok-copy.copy.g ≡ c.args.g = search rules in
    absurd (none_already state c.args.g _ c.requires.behind (sym c.in-Already.is ∙ c.record_one-recording.ensures.answer ∙ ap (recording_of state) same))
