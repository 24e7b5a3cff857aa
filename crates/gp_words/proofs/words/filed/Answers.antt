use Rattle.std.proofs.Common.{◌≡◌, true, false, string_bytes, sym, ap, ◌∙◌, subst}
use Rattle.gp_words.specs.Words.{texts, is_file_word, IsFileWord}
use Rattle.gp_words.specs.Read.{Names}
use Rattle.gp_words.specs.Settings.{settings_said}
use Rattle.gp_words.specs.Job.{filed_of}
use Rattle.gp_words.proofs.Commands.{is_file, filed_none, filed_no_file, filed_file}
use Rattle.gp_words.proofs.Taking.{handed_on, goes_on, reads_same}
use Rattle.gp_words.proofs.words.filed.Goals as goal

pub returns-in_default-clause-said : goal.returns-in_default-clause-said
returns-in_default-clause-said c = filed_none c.args.command c.args.words.now c.in_default.ensures.cases

pub returns-then-not-is_file_word-clause-said : goal.returns-then-not-is_file_word-clause-said
returns-then-not-is_file_word-clause-said c =
    let file = string_bytes c.in-Some.file.now in
    let is : is_file_word file ≡ false = ap is_file_word (sym c.as_str-file.ensures.value) ∙ sym c.if-not-is_file_word.ensures in
    ap (λ ws. filed_of c.args.command (texts ws)) c.in-Some.ensures.cases.0 ∙ filed_no_file c.args.command file (texts c.in-Some.option_words.now) is

pub returns-in_err-settings-clause-said : goal.returns-in_err-settings-clause-said
returns-in_err-settings-clause-said c =
    let file = string_bytes c.in-Some.file.now in
    let words = texts c.in-Some.option_words.now in
    let is : is_file_word file ≡ true = ap is_file_word (sym c.as_str-file.ensures.value) ∙ sym c.if-not-is_file_word.ensures in
    reads_same c.from_residual.result _ _ (ap (λ ws. filed_of c.args.command (texts ws)) c.in-Some.ensures.cases.0 ∙ filed_file c.args.command file words is)
    (handed_on c.from_residual.result c.in_err-settings.field-0.0 (settings_said c.args.command words) (λ settings. Names (file, settings)) c.from_residual.ensures.1 c.in_err-settings.ensures.said)

pub returns-clause-said : goal.returns-clause-said
returns-clause-said c =
    let file = string_bytes c.in-Some.file.now in
    let words = texts c.in-Some.option_words.now in
    let settings = c.in_ok-settings.settings in
    let is : is_file_word file ≡ true = ap is_file_word (sym c.as_str-file.ensures.value) ∙ sym c.if-not-is_file_word.ensures in
    let name : file ≡ c.in_ok-file.file = sym (c.in_ok-file.ensures ∙ c.as_str-file.ensures.value) in
    ap (λ ws. filed_of c.args.command (texts ws)) c.in-Some.ensures.cases.0
    ∙ (filed_file c.args.command file words is
    ∙ (goes_on (settings_said c.args.command words) (λ settings. Names (file, settings)) settings c.in_ok-settings.ensures.said
    ∙ ap (λ f. Names (f, settings)) name))

pub returns-clause-file : goal.returns-clause-file
returns-clause-file c =
    let file = c.as_str-file.result.now in
    let is : is_file_word file ≡ true = sym c.if-not-is_file_word.ensures in
    subst IsFileWord (sym c.in_ok-file.ensures) (is_file file is)
