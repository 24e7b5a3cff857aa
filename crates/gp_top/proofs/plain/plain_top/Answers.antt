use Rattle.gp_report.specs.Fault.{fault_line}
use Rattle.gp_words.specs.Words.{texts}
use Rattle.gp_top.specs.Report.{ByNumbers}
use Rattle.gp_top.specs.Asked.{asked_of}
use Rattle.gp_top.specs.Putting.{Told, Sunk}
use Rattle.gp_top.proofs.Asking.{asked_sim, asked_gen, asked_dump, never_run}
use Rattle.gp_top.proofs.Heading.{fault_told, put_well, write_well, reported, all_ended, file_complete, numbers_complete, dump_complete}
use Rattle.gp_top.proofs.Refusing.{refused, whole, refused_told, no_fault, no_fault_of_numbers, no_fault_of_profile, written_since}
use Rattle.gp_top.proofs.plain.plain_top.Goals as goal

pub returns-in-Err-Fault-clause-refused : goal.returns-in-Err-Fault-clause-refused
returns-in-Err-Fault-clause-refused g c =
    refused g.S.Source.left g.S.Source.faults (asked_of (texts c.args.words.now)) c.args.source.now c.perform.new.source c.refuse.result.status
    c.in-Err-Fault.what c.refuse.ensures.status (rw c.in-Err-Fault.field-0-is at c.in-Err-Fault.ensures.stopped)

pub returns-in-Err-Fault-clause-whole : goal.returns-in-Err-Fault-clause-whole
returns-in-Err-Fault-clause-whole g c =
    whole g.S.Source.left g.S.Source.faults (asked_of (texts c.args.words.now)) c.args.source.now c.perform.new.source c.refuse.result.status
    c.in-Err-Fault.what c.refuse.ensures.status (rw c.in-Err-Fault.field-0-is at c.in-Err-Fault.ensures.stopped)

pub returns-in-Err-Fault-clause-refused_line : goal.returns-in-Err-Fault-clause-refused_line
returns-in-Err-Fault-clause-refused_line g c =
    let before : Sunk = (g.O.Sink.written c.args.out.now, g.O.Sink.faults c.args.out.now) in
    let after : Sunk = (g.O.Sink.written c.refuse.new.out, g.O.Sink.faults c.refuse.new.out) in
    refused_told g.S.Source.left g.S.Source.faults (asked_of (texts c.args.words.now)) c.args.source.now c.perform.new.source c.refuse.result.status before after
    c.in-Err-Fault.what c.refuse.ensures.status (rw c.in-Err-Fault.field-0-is at c.in-Err-Fault.ensures.stopped)
    (written_since g.O.Sink.written g.O.Sink.faults c.args.out.now c.perform.new.out c.refuse.new.out c.refuse.result.status (fault_line c.in-Err-Fault.what)
    c.in-Err-Fault.ensures.none_written c.refuse.ensures.written)

pub returns-in-Err-Fault-clause-complete : goal.returns-in-Err-Fault-clause-complete
returns-in-Err-Fault-clause-complete g c =
    λ file bytes settings program job held few gives well stored told.
    let words = texts c.args.words.now in
    absurd (no_fault g.S.Source.left g.S.Source.faults (asked_of words) c.args.source.now c.perform.new.source c.refuse.result.status
    ByNumbers file bytes settings program (asked_sim words file settings job) held few gives well c.in-Err-Fault.what (rw c.in-Err-Fault.field-0-is at c.in-Err-Fault.ensures.stopped))

pub returns-in-Err-Fault-clause-gen_complete : goal.returns-in-Err-Fault-clause-gen_complete
returns-in-Err-Fault-clause-gen_complete g c =
    λ n q settings job stored told.
    let words = texts c.args.words.now in
    absurd (no_fault_of_numbers g.S.Source.left g.S.Source.faults (asked_of words) c.args.source.now c.perform.new.source c.refuse.result.status
    n q settings (asked_gen words n q settings job) c.in-Err-Fault.what (rw c.in-Err-Fault.field-0-is at c.in-Err-Fault.ensures.stopped))

pub returns-in-Err-Fault-clause-dump_complete : goal.returns-in-Err-Fault-clause-dump_complete
returns-in-Err-Fault-clause-dump_complete g c =
    λ file bytes profile job held few gives well told.
    let words = texts c.args.words.now in
    absurd (no_fault_of_profile g.S.Source.left g.S.Source.faults (asked_of words) c.args.source.now c.perform.new.source c.refuse.result.status
    file bytes profile (asked_dump words file job) held few gives well c.in-Err-Fault.what (rw c.in-Err-Fault.field-0-is at c.in-Err-Fault.ensures.stopped))

pub returns-in-Ok-clause-put_fault : goal.returns-in-Ok-clause-put_fault
returns-in-Ok-clause-put_fault g c =
    let before : Told = (g.K.Store.files c.args.store.now, g.K.Store.asked c.args.store.now, g.K.Store.faults c.args.store.now) in
    let after : Told = (g.K.Store.files c.perform.new.store, g.K.Store.asked c.perform.new.store, g.K.Store.faults c.perform.new.store) in
    let sink_before : Sunk = (g.O.Sink.written c.args.out.now, g.O.Sink.faults c.args.out.now) in
    let sink_after : Sunk = (g.O.Sink.written c.perform.new.out, g.O.Sink.faults c.perform.new.out) in
    fault_told (asked_of (texts c.args.words.now)) (g.S.Source.left c.args.source.now) before after sink_before sink_after c.in-Ok.outcome.status
    c.in-Ok.outcome.report c.in-Ok.ensures.headline c.in-Ok.ensures.no_report c.in-Ok.ensures.after_run

pub returns-in-Ok-clause-put_well : goal.returns-in-Ok-clause-put_well
returns-in-Ok-clause-put_well g c =
    let before : Told = (g.K.Store.files c.args.store.now, g.K.Store.asked c.args.store.now, g.K.Store.faults c.args.store.now) in
    let after : Told = (g.K.Store.files c.perform.new.store, g.K.Store.asked c.perform.new.store, g.K.Store.faults c.perform.new.store) in
    let sink_before : Sunk = (g.O.Sink.written c.args.out.now, g.O.Sink.faults c.args.out.now) in
    let sink_after : Sunk = (g.O.Sink.written c.perform.new.out, g.O.Sink.faults c.perform.new.out) in
    put_well (asked_of (texts c.args.words.now)) (g.S.Source.left c.args.source.now) before after sink_before sink_after c.in-Ok.outcome.status
    c.in-Ok.outcome.report c.in-Ok.ensures.headline c.in-Ok.ensures.no_report c.in-Ok.ensures.after_run

pub returns-in-Ok-clause-write_well : goal.returns-in-Ok-clause-write_well
returns-in-Ok-clause-write_well g c =
    let before : Told = (g.K.Store.files c.args.store.now, g.K.Store.asked c.args.store.now, g.K.Store.faults c.args.store.now) in
    let after : Told = (g.K.Store.files c.perform.new.store, g.K.Store.asked c.perform.new.store, g.K.Store.faults c.perform.new.store) in
    let sink_before : Sunk = (g.O.Sink.written c.args.out.now, g.O.Sink.faults c.args.out.now) in
    let sink_after : Sunk = (g.O.Sink.written c.perform.new.out, g.O.Sink.faults c.perform.new.out) in
    λ _ other.
    write_well (asked_of (texts c.args.words.now)) (g.S.Source.left c.args.source.now) before after sink_before sink_after c.in-Ok.outcome.status
    c.in-Ok.outcome.report c.in-Ok.ensures.headline c.in-Ok.ensures.no_report c.in-Ok.ensures.after_run other

pub returns-in-Ok-clause-ended : goal.returns-in-Ok-clause-ended
returns-in-Ok-clause-ended g c =
    let before : Told = (g.K.Store.files c.args.store.now, g.K.Store.asked c.args.store.now, g.K.Store.faults c.args.store.now) in
    let after : Told = (g.K.Store.files c.perform.new.store, g.K.Store.asked c.perform.new.store, g.K.Store.faults c.perform.new.store) in
    let sink_before : Sunk = (g.O.Sink.written c.args.out.now, g.O.Sink.faults c.args.out.now) in
    let sink_after : Sunk = (g.O.Sink.written c.perform.new.out, g.O.Sink.faults c.perform.new.out) in
    all_ended (asked_of (texts c.args.words.now)) (g.S.Source.left c.args.source.now) before after sink_before sink_after c.in-Ok.outcome.status
    c.in-Ok.outcome.report c.in-Ok.ensures.headline

pub returns-in-Ok-clause-reported : goal.returns-in-Ok-clause-reported
returns-in-Ok-clause-reported g c =
    let before : Told = (g.K.Store.files c.args.store.now, g.K.Store.asked c.args.store.now, g.K.Store.faults c.args.store.now) in
    let after : Told = (g.K.Store.files c.perform.new.store, g.K.Store.asked c.perform.new.store, g.K.Store.faults c.perform.new.store) in
    let sink_before : Sunk = (g.O.Sink.written c.args.out.now, g.O.Sink.faults c.args.out.now) in
    let sink_after : Sunk = (g.O.Sink.written c.perform.new.out, g.O.Sink.faults c.perform.new.out) in
    reported (asked_of (texts c.args.words.now)) (g.S.Source.left c.args.source.now) before after sink_before sink_after c.in-Ok.outcome.status
    c.in-Ok.outcome.report c.in-Ok.ensures.headline c.in-Ok.ensures.no_report c.in-Ok.ensures.after_run

pub returns-in-Ok-clause-complete : goal.returns-in-Ok-clause-complete
returns-in-Ok-clause-complete g c =
    let before : Told = (g.K.Store.files c.args.store.now, g.K.Store.asked c.args.store.now, g.K.Store.faults c.args.store.now) in
    let after : Told = (g.K.Store.files c.perform.new.store, g.K.Store.asked c.perform.new.store, g.K.Store.faults c.perform.new.store) in
    let sink_before : Sunk = (g.O.Sink.written c.args.out.now, g.O.Sink.faults c.args.out.now) in
    let sink_after : Sunk = (g.O.Sink.written c.perform.new.out, g.O.Sink.faults c.perform.new.out) in
    λ file bytes settings program job held few gives well stored told.
    file_complete (asked_of (texts c.args.words.now)) (g.S.Source.left c.args.source.now) before after sink_before sink_after c.in-Ok.outcome.status
    c.in-Ok.outcome.report c.in-Ok.ensures.headline c.in-Ok.ensures.no_report c.in-Ok.ensures.after_run file bytes settings program (asked_sim (texts c.args.words.now) file settings job) held gives stored told

pub returns-in-Ok-clause-gen_complete : goal.returns-in-Ok-clause-gen_complete
returns-in-Ok-clause-gen_complete g c =
    let before : Told = (g.K.Store.files c.args.store.now, g.K.Store.asked c.args.store.now, g.K.Store.faults c.args.store.now) in
    let after : Told = (g.K.Store.files c.perform.new.store, g.K.Store.asked c.perform.new.store, g.K.Store.faults c.perform.new.store) in
    let sink_before : Sunk = (g.O.Sink.written c.args.out.now, g.O.Sink.faults c.args.out.now) in
    let sink_after : Sunk = (g.O.Sink.written c.perform.new.out, g.O.Sink.faults c.perform.new.out) in
    λ n q settings job stored told.
    numbers_complete (asked_of (texts c.args.words.now)) (g.S.Source.left c.args.source.now) before after sink_before sink_after c.in-Ok.outcome.status
    c.in-Ok.outcome.report c.in-Ok.ensures.headline c.in-Ok.ensures.no_report c.in-Ok.ensures.after_run n q settings (asked_gen (texts c.args.words.now) n q settings job) stored told

pub returns-in-Ok-clause-dump_complete : goal.returns-in-Ok-clause-dump_complete
returns-in-Ok-clause-dump_complete g c =
    let before : Told = (g.K.Store.files c.args.store.now, g.K.Store.asked c.args.store.now, g.K.Store.faults c.args.store.now) in
    let after : Told = (g.K.Store.files c.perform.new.store, g.K.Store.asked c.perform.new.store, g.K.Store.faults c.perform.new.store) in
    let sink_before : Sunk = (g.O.Sink.written c.args.out.now, g.O.Sink.faults c.args.out.now) in
    let sink_after : Sunk = (g.O.Sink.written c.perform.new.out, g.O.Sink.faults c.perform.new.out) in
    λ file bytes profile job held few gives well told.
    dump_complete (asked_of (texts c.args.words.now)) (g.S.Source.left c.args.source.now) before after sink_before sink_after c.in-Ok.outcome.status
    c.in-Ok.outcome.report c.in-Ok.ensures.headline c.in-Ok.ensures.no_report c.in-Ok.ensures.after_run file (asked_dump (texts c.args.words.now) file job) told

pub returns-in-Ok-clause-no_threads : goal.returns-in-Ok-clause-no_threads
returns-in-Ok-clause-no_threads g c = λ file settings asked. never_run (texts c.args.words.now) file settings asked

pub returns-in-Err-Fault-clause-no_threads : goal.returns-in-Err-Fault-clause-no_threads
returns-in-Err-Fault-clause-no_threads g c = λ file settings asked. never_run (texts c.args.words.now) file settings asked

pub returns-in-Err-Memory-clause-no_threads : goal.returns-in-Err-Memory-clause-no_threads
returns-in-Err-Memory-clause-no_threads g c = λ file settings asked. never_run (texts c.args.words.now) file settings asked
