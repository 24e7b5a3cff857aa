use Rattle.std.proofs.Common.{ap, subst}
use Rattle.gp_report.specs.Summary.{summary_text}
use Rattle.gp_top.specs.Files.{files_of, summary_of, block_sums, mutex_sums}
use Rattle.gp_top.specs.Putting.{Told, Sunk}
use Rattle.gp_top.specs.Status as definition
use Rattle.gp_top.specs.Top.{IsTold}
use Rattle.gp_top.proofs.Heading.{comes_of}
use Rattle.gp_top.proofs.Summing.{told_totals}
use Rattle.gp_top.proofs.finish.finish.Goals as goal

pub returns-in-Ok-clause-comes : goal.returns-in-Ok-clause-comes
returns-in-Ok-clause-comes g c =
    let program = c.args.program.now in
    let settings = c.args.settings.now in
    let ran = c.args.ran.now in
    let report = ran.report in
    let before : Told = (g.K.Store.files c.args.store.now, g.K.Store.asked c.args.store.now, g.K.Store.faults c.args.store.now) in
    let after : Told = (g.K.Store.files c.put_files.new.store, g.K.Store.asked c.put_files.new.store, g.K.Store.faults c.put_files.new.store) in
    let sink_before : Sunk = (g.O.Sink.written c.args.out.now, g.O.Sink.faults c.args.out.now) in
    let sink_after : Sunk = (g.O.Sink.written c.summarize.new.out, g.O.Sink.faults c.summarize.new.out) in
    comes_of (files_of program settings c.args.file.now report) (summary_of program settings report) (definition.status_of report) before after sink_before sink_after c.summarize.result
    c.in-Ok.ensures.put
    (λ other.
    subst (λ totals. IsTold (summary_text report totals) (definition.status_of report) sink_before sink_after c.summarize.result)
    (told_totals program ran.block ran.mutex (block_sums program settings report) (mutex_sums program settings report) c.requires.ran.block_are c.requires.ran.mutex_are)
    (c.summarize.ensures.told other))
    (λ nine. ap (λ out. (g.O.Sink.written out, g.O.Sink.faults out)) (c.summarize.ensures.memory nine))
