use Rattle.std.proofs.Common.{◌-◌, ◌^◌, string_bytes, sym, ap, ◌∙◌, subst}
use Rattle.gp_words.specs.Words.{texts}
use Rattle.gp_words.specs.Numbers.{number_in}
use Rattle.gp_words.specs.Read.{IsFault, value_or_fault}
use Rattle.gp_words.specs.Job.{gen_with, gen_of}
use Rattle.gp_words.proofs.Commands.{gen_none, gen_word}
use Rattle.gp_words.proofs.Taking.{handed_on, goes_on, reads_same}
use Rattle.gp_words.proofs.words.generated.Goals as goal

pub returns-in_default-clause-said : goal.returns-in_default-clause-said
returns-in_default-clause-said c = gen_none c.args.words.now c.in_default.ensures.cases

pub returns-in_err-n-clause-said : goal.returns-in_err-n-clause-said
returns-in_err-n-clause-said c =
    let word = string_bytes c.in-Some.word.now in
    let error = c.in_err-n.field-0.0 in
    reads_same c.from_residual.result _ _ (ap (λ ws. gen_of (texts ws)) c.in-Some.ensures.cases.0 ∙ gen_word word (texts c.in-Some.after.now))
    (handed_on c.from_residual.result error (value_or_fault 1 (number_in 0 (2 ^ 64 - 1) word)) _ c.from_residual.ensures.1
    (subst (λ w. IsFault error (value_or_fault 1 (number_in 0 (2 ^ 64 - 1) w))) c.as_str.ensures.value c.in_err-n.ensures.said))

pub returns-clause-said : goal.returns-clause-said
returns-clause-said c =
    let word = string_bytes c.in-Some.word.now in
    let words = texts c.in-Some.after.now in
    let number = sym (ap (λ w. value_or_fault 1 (number_in 0 (2 ^ 64 - 1) w)) c.as_str.ensures.value) ∙ c.in_ok-n.ensures.said in
    reads_same c.gen_with.result _ _
    (ap (λ ws. gen_of (texts ws)) c.in-Some.ensures.cases.0
    ∙ (gen_word word words ∙ goes_on (value_or_fault 1 (number_in 0 (2 ^ 64 - 1) word)) (λ n. gen_with n words) c.in_ok-n.n number))
    c.gen_with.ensures.said
