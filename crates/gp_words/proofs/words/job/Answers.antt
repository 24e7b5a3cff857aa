use Rattle.std.proofs.Common.{string_bytes, sym, ap, ◌∙◌}
use Rattle.gp_words.specs.Words.{texts}
use Rattle.gp_words.specs.Job.{said_by, job_of}
use Rattle.gp_words.proofs.Commands.{job_none, job_words, reads_ok, reads_fault}
use Rattle.gp_words.proofs.words.job.Goals as goal

pub returns-in-None-clause-usage : goal.returns-in-None-clause-usage
returns-in-None-clause-usage c = job_none c.args.words.now c.in-None.ensures.cases

pub returns-in-Some-clause-ok : goal.returns-in-Some-clause-ok
returns-in-Some-clause-ok c =
    let words = texts c.in-Some.after.now in
    reads_ok c.said_by.result (job_of (texts c.args.words.now)) (said_by c.as_str.result.now words)
    (ap (λ ws. job_of (texts ws)) c.in-Some.ensures.cases.0 ∙ (job_words (string_bytes c.in-Some.command.now) words ∙ ap (λ w. said_by w words) (sym c.as_str.ensures.value)))
    c.said_by.ensures.said

pub returns-in-Some-clause-usage : goal.returns-in-Some-clause-usage
returns-in-Some-clause-usage c =
    let words = texts c.in-Some.after.now in
    reads_fault c.said_by.result (job_of (texts c.args.words.now)) (said_by c.as_str.result.now words)
    (ap (λ ws. job_of (texts ws)) c.in-Some.ensures.cases.0 ∙ (job_words (string_bytes c.in-Some.command.now) words ∙ ap (λ w. said_by w words) (sym c.as_str.ensures.value)))
    c.said_by.ensures.said
