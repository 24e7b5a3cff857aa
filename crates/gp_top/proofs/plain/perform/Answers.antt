use Rattle.std.proofs.Common.{sym, subst, ◌≡◌}
use Rattle.std.proofs.lemmas.Result.{IfOk-weaker, IfErr-weaker}
use Rattle.gp_words.specs.Words.{texts}
use Rattle.gp_words.specs.declared.jobs.Job.TheVariants.{Sim, Gen}
use Rattle.gp_words.specs.Read.{Names}
use Rattle.gp_top.specs.Report.{ByNumbers}
use Rattle.gp_top.specs.Asked.{asked_of}
use Rattle.gp_top.specs.Putting.{Told, Sunk}
use Rattle.gp_top.specs.kept.Steps.{RunStops}
use Rattle.gp_top.proofs.Asking.{asked_names, asked_gen, never_run, file_not_numbers, text_not_numbers}
use Rattle.gp_top.proofs.Heading.{file_runs, numbers_runs, dumped_bare}
use Rattle.gp_top.proofs.Loading.{carried, stopped_load, stopped_profile}
use Rattle.gp_top.proofs.plain.perform.Goals as goal

pub returns-in-Sim-clause-headline : goal.returns-in-Sim-clause-headline
returns-in-Sim-clause-headline g c =
    let asked = asked_of (texts c.args.words.now) in
    let settings = c.in-Sim.settings in
    let job = subst (λ job. asked ≡ Names job) c.in-Sim.is c.in_ok-job.ensures.ok in
    let before : Told = (g.K.Store.files c.args.store.now, g.K.Store.asked c.args.store.now, g.K.Store.faults c.args.store.now) in
    let after : Told = (g.K.Store.files c.simulated.new.store, g.K.Store.asked c.simulated.new.store, g.K.Store.faults c.simulated.new.store) in
    let sink_before : Sunk = (g.O.Sink.written c.args.out.now, g.O.Sink.faults c.args.out.now) in
    let sink_after : Sunk = (g.O.Sink.written c.simulated.new.out, g.O.Sink.faults c.simulated.new.out) in
    IfOk-weaker c.simulated.result _ _
    (λ done came.
    file_runs asked (g.S.Source.left c.args.source.now) before after sink_before sink_after done.status ByNumbers c.as_str.result.now settings done.report
    (subst (λ file. asked ≡ Names (Sim file settings)) (sym c.as_str.ensures) job) came)
    c.simulated.ensures.run

pub returns-in-Sim-clause-unread : goal.returns-in-Sim-clause-unread
returns-in-Sim-clause-unread g c = λ n q ask.
    let words = texts c.args.words.now in
    let job = subst (λ job. asked_of words ≡ Names job) c.in-Sim.is c.in_ok-job.ensures.ok in
    absurd (file_not_numbers (asked_of words) ByNumbers c.in-Sim.file c.in-Sim.settings ask.settings n q job (asked_gen words n q ask.settings ask.job))

pub returns-in-Sim-clause-stopped : goal.returns-in-Sim-clause-stopped
returns-in-Sim-clause-stopped g c =
    let asked = asked_of (texts c.args.words.now) in
    let job = subst (λ job. asked ≡ Names job) c.in-Sim.is c.in_ok-job.ensures.ok in
    IfErr-weaker c.simulated.result _ _
    (λ stop tells. stopped_load g.S.Source.left g.S.Source.faults asked c.args.source.now c.simulated.new.source stop ByNumbers c.in-Sim.file c.in-Sim.settings job tells)
    c.simulated.ensures.stopped

pub returns-in-Gen-clause-headline : goal.returns-in-Gen-clause-headline
returns-in-Gen-clause-headline g c =
    let asked = asked_of (texts c.args.words.now) in
    let n = c.in-Gen.n in
    let q = c.in-Gen.q in
    let settings = c.in-Gen.settings in
    let job = subst (λ job. asked ≡ Names job) c.in-Gen.is c.in_ok-job.ensures.ok in
    let before : Told = (g.K.Store.files c.args.store.now, g.K.Store.asked c.args.store.now, g.K.Store.faults c.args.store.now) in
    let after : Told = (g.K.Store.files c.generate.new.store, g.K.Store.asked c.generate.new.store, g.K.Store.faults c.generate.new.store) in
    let sink_before : Sunk = (g.O.Sink.written c.args.out.now, g.O.Sink.faults c.args.out.now) in
    let sink_after : Sunk = (g.O.Sink.written c.generate.new.out, g.O.Sink.faults c.generate.new.out) in
    numbers_runs asked (g.S.Source.left c.args.source.now) before after sink_before sink_after c.generate.result.status n q settings c.generate.result.report job c.generate.ensures.run

pub returns-in-Gen-clause-no_report : goal.returns-in-Gen-clause-no_report
returns-in-Gen-clause-no_report g c = λ none.
    let asked = asked_of (texts c.args.words.now) in
    let job = subst (λ job. asked ≡ Names job) c.in-Gen.is c.in_ok-job.ensures.ok in
    c.generate.ensures.no_report none asked (g.S.Source.left c.args.source.now) (record { settings = c.in-Gen.settings; job = job })

pub returns-in-Gen-clause-nothing_put : goal.returns-in-Gen-clause-nothing_put
returns-in-Gen-clause-nothing_put g c = λ none other.
    let words = texts c.args.words.now in
    let n = c.in-Gen.n in
    let q = c.in-Gen.q in
    let settings = c.in-Gen.settings in
    let job = asked_names words (Gen n q settings) (subst (λ job. asked_of words ≡ Names job) c.in-Gen.is c.in_ok-job.ensures.ok) in
    absurd (other n q (record { settings = settings; job = job }))

pub returns-in_err-status-in-Dump-clause-unread : goal.returns-in_err-status-in-Dump-clause-unread
returns-in_err-status-in-Dump-clause-unread g c = λ n q ask.
    let words = texts c.args.words.now in
    let job = subst (λ job. asked_of words ≡ Names job) c.in-Dump.is c.in_ok-job.ensures.ok in
    absurd (text_not_numbers (asked_of words) c.in-Dump.file ask.settings n q job (asked_gen words n q ask.settings ask.job))

pub returns-in_err-status-in-Dump-clause-stopped : goal.returns-in_err-status-in-Dump-clause-stopped
returns-in_err-status-in-Dump-clause-stopped g c =
    let asked = asked_of (texts c.args.words.now) in
    let job = subst (λ job. asked ≡ Names job) c.in-Dump.is c.in_ok-job.ensures.ok in
    let stop = c.in_err-status-in-Dump.field-0.0 in
    carried c.from_residual-in_err-status-in-Dump.result stop (RunStops g.S.Source.left g.S.Source.faults asked c.args.source.now c.dumped.new.source)
    c.from_residual-in_err-status-in-Dump.ensures.1
    (stopped_profile g.S.Source.left g.S.Source.faults asked c.args.source.now c.dumped.new.source stop c.in-Dump.file job c.in_err-status-in-Dump.ensures.stopped)

pub returns-in-Dump-clause-no_report : goal.returns-in-Dump-clause-no_report
returns-in-Dump-clause-no_report g c = λ none.
    let asked = asked_of (texts c.args.words.now) in
    let job = subst (λ job. asked ≡ Names job) c.in-Dump.is c.in_ok-job.ensures.ok in
    let before : Told = (g.K.Store.files c.args.store.now, g.K.Store.asked c.args.store.now, g.K.Store.faults c.args.store.now) in
    let sink_before : Sunk = (g.O.Sink.written c.args.out.now, g.O.Sink.faults c.args.out.now) in
    let sink_after : Sunk = (g.O.Sink.written c.dumped.new.out, g.O.Sink.faults c.dumped.new.out) in
    dumped_bare asked (g.S.Source.left c.args.source.now) before sink_before sink_after c.in_ok-status-in-Dump.status c.without_report.result.status
    c.without_report.ensures.status c.in-Dump.file job c.in_ok-status-in-Dump.ensures.dump

pub returns-in-Dump-clause-unread : goal.returns-in-Dump-clause-unread
returns-in-Dump-clause-unread g c = λ n q ask.
    let words = texts c.args.words.now in
    let job = subst (λ job. asked_of words ≡ Names job) c.in-Dump.is c.in_ok-job.ensures.ok in
    absurd (text_not_numbers (asked_of words) c.in-Dump.file ask.settings n q job (asked_gen words n q ask.settings ask.job))

pub returns-clause-stopped : goal.returns-clause-stopped
returns-clause-stopped g c =
    let words = texts c.args.words.now in
    absurd (never_run words c.in-Run.file c.in-Run.settings (subst (λ job. asked_of words ≡ Names job) c.in-Run.is c.in_ok-job.ensures.ok))
