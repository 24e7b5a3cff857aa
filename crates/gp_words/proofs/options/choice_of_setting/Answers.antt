use Rattle.std.proofs.Common.{◌≡◌, Some, None, sym, ap, ◌∙◌, string_bytes, option_map}
use Rattle.gp_words.specs.Table.{values_of}
use Rattle.gp_words.specs.Read.{Names, and_then, value_or_fault}
use Rattle.gp_words.specs.Options.{value_of, choice_of_setting}
use Rattle.gp_words.proofs.options.choice_of_setting.Goals as goal

pub returns-in_default : goal.returns-in_default
returns-in_default c = ap (λ v. choice_of_setting c.args.place c.args.setting (option_map (λ w. string_bytes w.now) v)) c.in_default.is

pub returns-in-Some-2 : goal.returns-in-Some-2
returns-in-Some-2 c =
    let setting = c.args.setting in
    let value : value_of (values_of setting) (string_bytes c.in-Some.word.now) ≡ Some c.in-Some-2.value =
    ap (λ v. value_of v (string_bytes c.in-Some.word.now)) (sym c.values.ensures)
    ∙ (ap (value_of c.values.result) (sym c.as_str.ensures.value) ∙ (sym c.in_ok-value.ensures ∙ c.in-Some-2.is)) in
    ap (λ v. choice_of_setting c.args.place setting (option_map (λ w. string_bytes w.now) v)) c.in-Some.is
    ∙ ap (λ o. and_then (value_or_fault c.args.place o) (λ value. Names (record { setting = setting; value = value }))) value

pub returns-in-None : goal.returns-in-None
returns-in-None c =
    let setting = c.args.setting in
    let value : value_of (values_of setting) (string_bytes c.in-Some.word.now) ≡ None =
    ap (λ v. value_of v (string_bytes c.in-Some.word.now)) (sym c.values.ensures)
    ∙ (ap (value_of c.values.result) (sym c.as_str.ensures.value) ∙ (sym c.in_ok-value.ensures ∙ c.in-None.is)) in
    ap (λ v. choice_of_setting c.args.place setting (option_map (λ w. string_bytes w.now) v)) c.in-Some.is
    ∙ ap (λ o. and_then (value_or_fault c.args.place o) (λ value. Names (record { setting = setting; value = value }))) value
