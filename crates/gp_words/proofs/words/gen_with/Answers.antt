use Rattle.std.proofs.Common.{string_bytes, sym, ap, ◌∙◌, subst, arith}
use Rattle.gp_words.specs.declared.command.Command.TheVariants as command
use Rattle.gp_words.specs.declared.jobs.Job.TheVariants.{Gen}
use Rattle.gp_words.specs.Words.{texts}
use Rattle.gp_words.specs.Numbers.{number_in}
use Rattle.gp_words.specs.Read.{Names, IsFault, and_then, value_or_fault}
use Rattle.gp_words.specs.Settings.{settings_said}
use Rattle.gp_words.specs.Job.{gen_with as said_with}
use Rattle.gp_words.proofs.Commands.{gen_with_none, gen_with_word}
use Rattle.gp_words.proofs.Taking.{handed_on, goes_on, reads_same}
use Rattle.gp_words.proofs.words.gen_with.Goals as goal

pub returns-in_default-clause-said : goal.returns-in_default-clause-said
returns-in_default-clause-said c = gen_with_none c.args.n c.args.words.now c.in_default.ensures.cases

pub returns-in_err-q-clause-said : goal.returns-in_err-q-clause-said
returns-in_err-q-clause-said c =
    let word = string_bytes c.in-Some.word.now in
    let words = texts c.in-Some.option_words.now in
    let error = c.in_err-q.field-0.0 in
    reads_same c.from_residual.result _ _ (ap (λ ws. said_with c.args.n (texts ws)) c.in-Some.ensures.cases.0 ∙ gen_with_word c.args.n word words)
    (handed_on c.from_residual.result error (value_or_fault 2 (number_in 1 63 word)) _ c.from_residual.ensures.1
    (subst (λ w. IsFault error (value_or_fault 2 (number_in 1 63 w))) c.as_str.ensures.value c.in_err-q.ensures.said))

pub returns-in_err-settings-clause-said : goal.returns-in_err-settings-clause-said
returns-in_err-settings-clause-said c =
    let word = string_bytes c.in-Some.word.now in
    let words = texts c.in-Some.option_words.now in
    let q = c.in_ok-q.q in
    let error = c.in_err-settings.field-0.0 in
    let number = sym (ap (λ w. value_or_fault 2 (number_in 1 63 w)) c.as_str.ensures.value) ∙ c.in_ok-q.ensures.said in
    reads_same c.from_residual-in_err-settings.result _ _
    (ap (λ ws. said_with c.args.n (texts ws)) c.in-Some.ensures.cases.0
    ∙ (gen_with_word c.args.n word words
    ∙ goes_on (value_or_fault 2 (number_in 1 63 word)) (λ q. and_then (settings_said command.Gen words) (λ settings. Names (Gen c.args.n q settings))) q number))
    (handed_on c.from_residual-in_err-settings.result error (settings_said command.Gen words) (λ settings. Names (Gen c.args.n q settings)) c.from_residual-in_err-settings.ensures.1 c.in_err-settings.ensures.said)

pub overflow_cast-result : goal.overflow_cast-result
overflow_cast-result c = omega (arith, c.in_ok-q.ensures.range.1)

pub returns-clause-said : goal.returns-clause-said
returns-clause-said c =
    let word = string_bytes c.in-Some.word.now in
    let words = texts c.in-Some.option_words.now in
    let q = c.in_ok-q.q in
    let number = sym (ap (λ w. value_or_fault 2 (number_in 1 63 w)) c.as_str.ensures.value) ∙ c.in_ok-q.ensures.said in
    ap (λ ws. said_with c.args.n (texts ws)) c.in-Some.ensures.cases.0
    ∙ (gen_with_word c.args.n word words
    ∙ (goes_on (value_or_fault 2 (number_in 1 63 word)) (λ q. and_then (settings_said command.Gen words) (λ settings. Names (Gen c.args.n q settings))) q number
    ∙ goes_on (settings_said command.Gen words) (λ settings. Names (Gen c.args.n q settings)) c.in_ok-settings.settings c.in_ok-settings.ensures.said))

pub returns-clause-range : goal.returns-clause-range
returns-clause-range c = (omega arith, (c.in_ok-q.ensures.range.0, (c.in_ok-q.ensures.range.1, c.in_ok-settings.ensures.range)))
