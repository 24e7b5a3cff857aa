use Rattle.gp_history.specs.Events.{block_events, mutex_events}
use Rattle.gp_top.proofs.Reporting.{ordered_sums, journal_clock}
use Rattle.gp_top.proofs.report.report_on.Goals as goal

pub returns-clause-ran : goal.returns-clause-ran
returns-clause-ran g c =
    let program = g.R.Run.program in
    let settings = g.R.Run.settings in
    let journal = c.in_ok-report.report.journal in
    let made = c.args.complete in
    let is = c.in_ok-report.ensures.journal in
    record {
      reported = c.in_ok-report.ensures.report;
      clock_is = journal_clock program c.args.program.now settings made.machine journal c.requires.program is c.clock-clock.result c.clock-clock.ensures.clock;
      clock_fits = c.clock-clock.ensures.fits;
      block_are = ordered_sums program c.args.program.now settings made.machine journal c.requires.program is block_events made.block c.in_ok-sorted.field-0 c.in_ok-sorted.ensures c.requires.block;
      mutex_are = ordered_sums program c.args.program.now settings made.machine journal c.requires.program is mutex_events made.mutex c.in_ok-sorted-2.field-0 c.in_ok-sorted-2.ensures c.requires.mutex;
    }
