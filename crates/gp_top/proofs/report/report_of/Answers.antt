use Rattle.std.proofs.Common.{ap, ◌∙◌}
use Rattle.gp_machine.specs.State.{code_of}
use Rattle.gp_journal.proofs.Lemmas.{records_are_frozen}
use Rattle.gp_top.specs.Report.{refusals as refused_of}
use Rattle.gp_top.proofs.Reporting.{are_recorded}
use Rattle.gp_top.proofs.report.report_of.Goals as goal

pub returns-clause-report : goal.returns-clause-report
returns-clause-report g c = rw (c.into_journal.ensures.journal) (record {
  finished = c.requires.finished;
  recorded = rw c.requires.records (are_recorded (code_of g.R.Run.program) g.R.Run.settings c.args.machine);
  frozen = rw c.requires.records (records_are_frozen (code_of g.R.Run.program) g.R.Run.settings c.args.machine c.requires.finished.legal c.requires.finished.complete.none_active);
  covered = c.requires.covered;
  begun = c.requires.begun;
  refused_are = c.in_ok-refused.ensures ∙ ap refused_of c.journal.ensures.journal;
  done_are = c.requires.done;
  made_are = c.requires.made;
  ended_is = c.ended-ended.ensures;
  born_are = c.births-born.ensures;
  live_are = c.live-live.ensures;
})
