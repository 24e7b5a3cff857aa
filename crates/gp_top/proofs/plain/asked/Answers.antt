use Rattle.std.proofs.Common.{sym, subst, ◌∙◌}
use Rattle.gp_words.specs.Words.{texts}
use Rattle.gp_words.specs.Job.{job_of}
use Rattle.gp_top.specs.Asked.{asked_of}
use Rattle.gp_top.specs.kept.Steps.{stop_of_words, WordsStop}
use Rattle.gp_top.proofs.Asking.{asked_other, asked_run}
use Rattle.gp_top.proofs.Loading.{carried, words_fault}
use Rattle.gp_top.proofs.plain.asked.Goals as goal

pub returns-then-is_run-clause-stopped : goal.returns-then-is_run-clause-stopped
returns-then-is_run-clause-stopped c =
    let words = texts c.args.words.now in
    subst (WordsStop (asked_of words)) (sym c.unknown.ensures) (asked_run words (sym c.if-is_run.ensures))

pub returns-in_err-job-clause-stopped : goal.returns-in_err-job-clause-stopped
returns-in_err-job-clause-stopped c =
    let words = texts c.args.words.now in
    let e = c.in_err-job.field-0.0 in
    carried c.from_residual.result (stop_of_words e) (WordsStop (asked_of words)) c.from_residual.ensures.1
    (subst (λ asked. WordsStop asked (stop_of_words e)) (sym (asked_other words (sym c.if-is_run.ensures))) (words_fault (job_of words) e c.in_err-job.ensures.usage))

pub returns-clause-ok : goal.returns-clause-ok
returns-clause-ok c = asked_other (texts c.args.words.now) (sym c.if-is_run.ensures) ∙ c.in_ok-job.ensures.ok
