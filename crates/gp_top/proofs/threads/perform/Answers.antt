use Rattle.std.proofs.Common.{sym, subst, ◌≡◌}
use Rattle.std.proofs.lemmas.Result.{IfOk-weaker, IfErr-weaker}
use Rattle.gp_words.specs.Words.{texts}
use Rattle.gp_words.specs.declared.jobs.Job.TheVariants.{Run}
use Rattle.gp_words.specs.Job.{job_of}
use Rattle.gp_words.specs.Read.{Names}
use Rattle.gp_top.specs.Report.{ByThreads}
use Rattle.gp_top.specs.Putting.{Told, Sunk}
use Rattle.gp_top.proofs.Asking.{run_alone, none_other}
use Rattle.gp_top.proofs.Heading.{file_runs}
use Rattle.gp_top.proofs.Loading.{stopped_load}
use Rattle.gp_top.proofs.threads.perform.Goals as goal

pub returns-clause-headline : goal.returns-clause-headline
returns-clause-headline g c =
    let asked = job_of (texts c.args.words.now) in
    let settings = c.in-Run.settings in
    let job = subst (λ job. asked ≡ Names job) c.in-Run.is c.in_ok-file.ensures.ok in
    let before : Told = (g.K.Store.files c.args.store.now, g.K.Store.asked c.args.store.now, g.K.Store.faults c.args.store.now) in
    let after : Told = (g.K.Store.files c.threaded.new.store, g.K.Store.asked c.threaded.new.store, g.K.Store.faults c.threaded.new.store) in
    let sink_before : Sunk = (g.O.Sink.written c.args.out.now, g.O.Sink.faults c.args.out.now) in
    let sink_after : Sunk = (g.O.Sink.written c.threaded.new.out, g.O.Sink.faults c.threaded.new.out) in
    IfOk-weaker c.threaded.result _ _
    (λ done came.
    file_runs asked (g.S.Source.left c.args.source.now) before after sink_before sink_after done.status ByThreads c.as_str.result.now settings done.report
    (subst (λ file. asked ≡ Names (Run file settings)) (sym c.as_str.ensures) job) came)
    c.threaded.ensures.run

pub returns-clause-stopped : goal.returns-clause-stopped
returns-clause-stopped g c =
    let asked = job_of (texts c.args.words.now) in
    let job = subst (λ job. asked ≡ Names job) c.in-Run.is c.in_ok-file.ensures.ok in
    IfErr-weaker c.threaded.result _ _
    (λ stop tells. stopped_load g.S.Source.left g.S.Source.faults asked c.args.source.now c.threaded.new.source stop ByThreads c.in-Run.file c.in-Run.settings job tells)
    c.threaded.ensures.stopped

pub unreachable-requires : goal.unreachable-requires
unreachable-requires g c =
    let job = c.in_ok-file.field-0 in
    none_other job (run_alone (texts c.args.words.now) job c.requires c.in_ok-file.ensures.ok) c.in_default.not-Run
