use Rattle.std.proofs.Common.{◌≡◌, ◌+◌, ◌*◌, length, Some, None, sym, ap, ◌∙◌, arith, Bor, String, string_bytes, option_map}
use Rattle.std.specs.Global.{Global}
use Rattle.gp_words.specs.Causes.{unknown_option, twice}
use Rattle.gp_words.specs.Table.{setting_of}
use Rattle.gp_words.specs.Read.{Faults}
use Rattle.gp_words.specs.Options.{choice_of_setting}
use Rattle.gp_words.proofs.Sound.{few}
use Rattle.gp_words.proofs.Taking.{first_near, unknown, given_too_often, allowed, reads_same}
use Rattle.gp_words.proofs.options.choice.Goals as goal

pub overflow_cast-place : goal.overflow_cast-place
overflow_cast-place c = omega (arith, few c.args.taken.now c.requires)

pub overflow_mul-place : goal.overflow_mul-place
overflow_mul-place c = omega (arith, few c.args.taken.now c.requires)

pub overflow_add-place : goal.overflow_add-place
overflow_add-place c = omega (arith, few c.args.taken.now c.requires, first_near c.args.command, c.first_option.ensures)

pub overflow_add-place-2 : goal.overflow_add-place-2
overflow_add-place-2 c = omega (arith, few c.args.taken.now c.requires, first_near c.args.command, c.first_option.ensures)

pub returns-in_default : goal.returns-in_default
returns-in_default c =
    let taken = c.args.taken.now in
    let none : setting_of c.args.command c.args.word.now ≡ None = cc in
    unknown c.args.command taken c.args.word.now _ none ∙ ap (λ n. Faults (n + 2 * length taken) unknown_option) (sym c.first_option.ensures)

pub returns-then-times-most_times : goal.returns-then-times-most_times
returns-then-times-most_times c =
    let taken = c.args.taken.now in
    let is : setting_of c.args.command c.args.word.now ≡ Some c.in-Some.setting = cc in
    given_too_often c.args.command taken c.args.word.now _ c.in-Some.setting is (omega arith) ∙ ap (λ n. Faults (n + 2 * length taken) twice) (sym c.first_option.ensures)

pub returns : goal.returns
returns c =
    let taken = c.args.taken.now in
    let setting = c.in-Some.setting in
    let value = option_map (λ (w : Bor (String Global)). string_bytes w.now) c.args.value_word in
    let is : setting_of c.args.command c.args.word.now ≡ Some setting = cc in
    reads_same c.choice_of_setting.result _ _
    (allowed c.args.command taken c.args.word.now value setting is (omega arith) ∙ ap (λ n. choice_of_setting (n + 2 * length taken + 1) setting value) (sym c.first_option.ensures))
    c.choice_of_setting.ensures
