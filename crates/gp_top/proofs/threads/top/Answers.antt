use Rattle.std.proofs.Common.{◌≡◌, true, false, sym, arith, refl, ◌∙◌}
use Rattle.gp_report.specs.Fault.{fault_line}
use Rattle.gp_words.specs.Words.{texts}
use Rattle.gp_words.specs.Job.{job_of}
use Rattle.gp_words.specs.declared.jobs.Job.TheVariants.{Run, Sim, Gen, Dump}
use Rattle.gp_top.specs.Putting.{Told, Sunk}
use Rattle.gp_top.proofs.Asking.{asked_other, run_by, run_alone}
use Rattle.gp_top.specs.Report.{ByThreads}
use Rattle.gp_top.proofs.Heading.{fault_told, put_well, write_well, reported, all_ended, run_complete}
use Rattle.gp_top.proofs.Refusing.{refused, whole, refused_told, written_since}
use Rattle.gp_top.proofs.threads.top.Goals as goal

pub returns-then-not-is_run-clause-headline : goal.returns-then-not-is_run-clause-headline
returns-then-not-is_run-clause-headline g c = rw (asked_other (texts c.args.words.now) (sym c.if-not-is_run.ensures)) at c.plain_top.ensures.headline

pub returns-then-not-is_run-clause-no_report : goal.returns-then-not-is_run-clause-no_report
returns-then-not-is_run-clause-no_report g c = rw (asked_other (texts c.args.words.now) (sym c.if-not-is_run.ensures)) at c.plain_top.ensures.no_report

pub returns-then-not-is_run-clause-usage : goal.returns-then-not-is_run-clause-usage
returns-then-not-is_run-clause-usage g c = rw (asked_other (texts c.args.words.now) (sym c.if-not-is_run.ensures)) at c.plain_top.ensures.usage

pub returns-then-not-is_run-clause-job : goal.returns-then-not-is_run-clause-job
returns-then-not-is_run-clause-job g c = rw (asked_other (texts c.args.words.now) (sym c.if-not-is_run.ensures)) at c.plain_top.ensures.job

pub returns-then-not-is_run-clause-refused : goal.returns-then-not-is_run-clause-refused
returns-then-not-is_run-clause-refused g c = rw (asked_other (texts c.args.words.now) (sym c.if-not-is_run.ensures)) at c.plain_top.ensures.refused

pub returns-then-not-is_run-clause-good : goal.returns-then-not-is_run-clause-good
returns-then-not-is_run-clause-good g c = rw (asked_other (texts c.args.words.now) (sym c.if-not-is_run.ensures)) at c.plain_top.ensures.good

pub returns-then-not-is_run-clause-whole : goal.returns-then-not-is_run-clause-whole
returns-then-not-is_run-clause-whole g c = rw (asked_other (texts c.args.words.now) (sym c.if-not-is_run.ensures)) at c.plain_top.ensures.whole

pub returns-then-not-is_run-clause-reported_whole : goal.returns-then-not-is_run-clause-reported_whole
returns-then-not-is_run-clause-reported_whole g c = rw (asked_other (texts c.args.words.now) (sym c.if-not-is_run.ensures)) at c.plain_top.ensures.reported_whole

pub returns-then-not-is_run-clause-usage_line : goal.returns-then-not-is_run-clause-usage_line
returns-then-not-is_run-clause-usage_line g c = rw (asked_other (texts c.args.words.now) (sym c.if-not-is_run.ensures)) at c.plain_top.ensures.usage_line

pub returns-then-not-is_run-clause-refused_line : goal.returns-then-not-is_run-clause-refused_line
returns-then-not-is_run-clause-refused_line g c = rw (asked_other (texts c.args.words.now) (sym c.if-not-is_run.ensures)) at c.plain_top.ensures.refused_line

pub returns-then-not-is_run-clause-run_complete : goal.returns-then-not-is_run-clause-run_complete
returns-then-not-is_run-clause-run_complete g c = λ file bytes settings program job held few gives well stored told.
    let e : true ≡ false = sym (run_by (texts c.args.words.now) (Run file settings) job refl) ∙ sym c.if-not-is_run.ensures in
    absurd cc

pub returns-in-Ok-clause-generated_unread : goal.returns-in-Ok-clause-generated_unread
returns-in-Ok-clause-generated_unread g c = λ n q ask.
    let is = run_alone (texts c.args.words.now) (Gen n q ask.settings) (sym c.if-not-is_run.ensures) ask.job in
    absurd (omega arith)

pub returns-in-Ok-clause-write_well : goal.returns-in-Ok-clause-write_well
returns-in-Ok-clause-write_well g c =
    let before : Told = (g.K.Store.files c.args.store.now, g.K.Store.asked c.args.store.now, g.K.Store.faults c.args.store.now) in
    let after : Told = (g.K.Store.files c.perform.new.store, g.K.Store.asked c.perform.new.store, g.K.Store.faults c.perform.new.store) in
    let sink_before : Sunk = (g.O.Sink.written c.args.out.now, g.O.Sink.faults c.args.out.now) in
    let sink_after : Sunk = (g.O.Sink.written c.perform.new.out, g.O.Sink.faults c.perform.new.out) in
    λ _ other.
    write_well (job_of (texts c.args.words.now)) (g.S.Source.left c.args.source.now) before after sink_before sink_after c.in-Ok.outcome.status
    c.in-Ok.outcome.report c.in-Ok.ensures.headline c.in-Ok.ensures.no_report c.in-Ok.ensures.after_run other

pub returns-in-Ok-clause-put_fault : goal.returns-in-Ok-clause-put_fault
returns-in-Ok-clause-put_fault g c =
    let before : Told = (g.K.Store.files c.args.store.now, g.K.Store.asked c.args.store.now, g.K.Store.faults c.args.store.now) in
    let after : Told = (g.K.Store.files c.perform.new.store, g.K.Store.asked c.perform.new.store, g.K.Store.faults c.perform.new.store) in
    let sink_before : Sunk = (g.O.Sink.written c.args.out.now, g.O.Sink.faults c.args.out.now) in
    let sink_after : Sunk = (g.O.Sink.written c.perform.new.out, g.O.Sink.faults c.perform.new.out) in
    fault_told (job_of (texts c.args.words.now)) (g.S.Source.left c.args.source.now) before after sink_before sink_after c.in-Ok.outcome.status
    c.in-Ok.outcome.report c.in-Ok.ensures.headline c.in-Ok.ensures.no_report c.in-Ok.ensures.after_run

pub returns-in-Ok-clause-put_well : goal.returns-in-Ok-clause-put_well
returns-in-Ok-clause-put_well g c =
    let before : Told = (g.K.Store.files c.args.store.now, g.K.Store.asked c.args.store.now, g.K.Store.faults c.args.store.now) in
    let after : Told = (g.K.Store.files c.perform.new.store, g.K.Store.asked c.perform.new.store, g.K.Store.faults c.perform.new.store) in
    let sink_before : Sunk = (g.O.Sink.written c.args.out.now, g.O.Sink.faults c.args.out.now) in
    let sink_after : Sunk = (g.O.Sink.written c.perform.new.out, g.O.Sink.faults c.perform.new.out) in
    put_well (job_of (texts c.args.words.now)) (g.S.Source.left c.args.source.now) before after sink_before sink_after c.in-Ok.outcome.status
    c.in-Ok.outcome.report c.in-Ok.ensures.headline c.in-Ok.ensures.no_report c.in-Ok.ensures.after_run

pub returns-in-Ok-clause-reported : goal.returns-in-Ok-clause-reported
returns-in-Ok-clause-reported g c =
    let before : Told = (g.K.Store.files c.args.store.now, g.K.Store.asked c.args.store.now, g.K.Store.faults c.args.store.now) in
    let after : Told = (g.K.Store.files c.perform.new.store, g.K.Store.asked c.perform.new.store, g.K.Store.faults c.perform.new.store) in
    let sink_before : Sunk = (g.O.Sink.written c.args.out.now, g.O.Sink.faults c.args.out.now) in
    let sink_after : Sunk = (g.O.Sink.written c.perform.new.out, g.O.Sink.faults c.perform.new.out) in
    reported (job_of (texts c.args.words.now)) (g.S.Source.left c.args.source.now) before after sink_before sink_after c.in-Ok.outcome.status
    c.in-Ok.outcome.report c.in-Ok.ensures.headline c.in-Ok.ensures.no_report c.in-Ok.ensures.after_run

pub returns-in-Ok-clause-ended : goal.returns-in-Ok-clause-ended
returns-in-Ok-clause-ended g c =
    let before : Told = (g.K.Store.files c.args.store.now, g.K.Store.asked c.args.store.now, g.K.Store.faults c.args.store.now) in
    let after : Told = (g.K.Store.files c.perform.new.store, g.K.Store.asked c.perform.new.store, g.K.Store.faults c.perform.new.store) in
    let sink_before : Sunk = (g.O.Sink.written c.args.out.now, g.O.Sink.faults c.args.out.now) in
    let sink_after : Sunk = (g.O.Sink.written c.perform.new.out, g.O.Sink.faults c.perform.new.out) in
    all_ended (job_of (texts c.args.words.now)) (g.S.Source.left c.args.source.now) before after sink_before sink_after c.in-Ok.outcome.status
    c.in-Ok.outcome.report c.in-Ok.ensures.headline

pub returns-in-Ok-clause-run_complete : goal.returns-in-Ok-clause-run_complete
returns-in-Ok-clause-run_complete g c =
    let before : Told = (g.K.Store.files c.args.store.now, g.K.Store.asked c.args.store.now, g.K.Store.faults c.args.store.now) in
    let after : Told = (g.K.Store.files c.perform.new.store, g.K.Store.asked c.perform.new.store, g.K.Store.faults c.perform.new.store) in
    let sink_before : Sunk = (g.O.Sink.written c.args.out.now, g.O.Sink.faults c.args.out.now) in
    let sink_after : Sunk = (g.O.Sink.written c.perform.new.out, g.O.Sink.faults c.perform.new.out) in
    λ file bytes settings program job held few gives well stored told.
    run_complete (job_of (texts c.args.words.now)) (g.S.Source.left c.args.source.now) before after sink_before sink_after c.in-Ok.outcome.status
    c.in-Ok.outcome.report c.in-Ok.ensures.headline c.in-Ok.ensures.no_report c.in-Ok.ensures.after_run ByThreads file settings job stored told

pub returns-in-Ok-clause-complete : goal.returns-in-Ok-clause-complete
returns-in-Ok-clause-complete g c = λ file bytes settings program job held few gives well stored told.
    let is = run_alone (texts c.args.words.now) (Sim file settings) (sym c.if-not-is_run.ensures) job in
    absurd (omega arith)

pub returns-in-Ok-clause-gen_complete : goal.returns-in-Ok-clause-gen_complete
returns-in-Ok-clause-gen_complete g c = λ n q settings job stored told.
    let is = run_alone (texts c.args.words.now) (Gen n q settings) (sym c.if-not-is_run.ensures) job in
    absurd (omega arith)

pub returns-in-Err-Fault-clause-refused : goal.returns-in-Err-Fault-clause-refused
returns-in-Err-Fault-clause-refused g c =
    refused g.S.Source.left g.S.Source.faults (job_of (texts c.args.words.now)) c.args.source.now c.perform.new.source c.refuse.result.status
    c.in-Err-Fault.what c.refuse.ensures.status (rw c.in-Err-Fault.field-0-is at c.in-Err-Fault.ensures.stopped)

pub returns-in-Err-Fault-clause-whole : goal.returns-in-Err-Fault-clause-whole
returns-in-Err-Fault-clause-whole g c =
    whole g.S.Source.left g.S.Source.faults (job_of (texts c.args.words.now)) c.args.source.now c.perform.new.source c.refuse.result.status
    c.in-Err-Fault.what c.refuse.ensures.status (rw c.in-Err-Fault.field-0-is at c.in-Err-Fault.ensures.stopped)

pub returns-in-Err-Fault-clause-refused_line : goal.returns-in-Err-Fault-clause-refused_line
returns-in-Err-Fault-clause-refused_line g c =
    let before : Sunk = (g.O.Sink.written c.args.out.now, g.O.Sink.faults c.args.out.now) in
    let after : Sunk = (g.O.Sink.written c.refuse.new.out, g.O.Sink.faults c.refuse.new.out) in
    refused_told g.S.Source.left g.S.Source.faults (job_of (texts c.args.words.now)) c.args.source.now c.perform.new.source c.refuse.result.status before after
    c.in-Err-Fault.what c.refuse.ensures.status (rw c.in-Err-Fault.field-0-is at c.in-Err-Fault.ensures.stopped)
    (written_since g.O.Sink.written g.O.Sink.faults c.args.out.now c.perform.new.out c.refuse.new.out c.refuse.result.status (fault_line c.in-Err-Fault.what)
    c.in-Err-Fault.ensures.none_written c.refuse.ensures.written)

pub returns-in-Err-Fault-clause-dump_complete : goal.returns-in-Err-Fault-clause-dump_complete
returns-in-Err-Fault-clause-dump_complete g c = λ file bytes profile job held few gives well told.
    let is = run_alone (texts c.args.words.now) (Dump file) (sym c.if-not-is_run.ensures) job in
    absurd (omega arith)

pub returns-in-Err-Memory-clause-generated_unread : goal.returns-in-Err-Memory-clause-generated_unread
returns-in-Err-Memory-clause-generated_unread g c = λ n q ask.
    let is = run_alone (texts c.args.words.now) (Gen n q ask.settings) (sym c.if-not-is_run.ensures) ask.job in
    absurd (omega arith)
