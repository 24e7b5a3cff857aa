use Rattle.std.proofs.Common.{◌≡◌, [], ◌∷◌, ◌++◌, option_map, string_bytes, sym, ap, subst, ◌∙◌}
use Rattle.std.specs.Slice.Iter.{iter_rest}
use Rattle.gp_words.specs.Words.{texts}
use Rattle.gp_words.specs.Read.{Names, IsFault}
use Rattle.gp_words.specs.Options.{choice_of, options_of}
use Rattle.gp_words.specs.kept.Sound.{IsSound}
use Rattle.gp_words.proofs.Sound.{more_sound}
use Rattle.gp_words.proofs.Taking.{behind_word, right, none_left, first_fault, first_right, second, carried}
use Rattle.gp_words.proofs.options.options.Goals as goal

pub returns-in_err-choice-clause-options : goal.returns-in_err-choice-clause-options
returns-in_err-choice-clause-options c =
    let taken = c.loop-word.taken in
    let word = c.in-Some.word.now in
    let after = iter_rest c.next.new.self in
    let error = c.in_err-choice.field-0.0 in
    let two = second c.next.new.self c.next-value_word.new.self c.next-value_word.result c.next-value_word.ensures.steps in
    let same : choice_of c.args.command c.as_slice.result.now c.as_str.result.now (option_map (λ w. string_bytes w.now) c.next-value_word.result) ≡ choice_of c.args.command taken (string_bytes word) (behind_word after) =
    ap (λ t. choice_of c.args.command t c.as_str.result.now (option_map (λ w. string_bytes w.now) c.next-value_word.result)) c.as_slice.ensures
    ∙ (ap (λ t. choice_of c.args.command taken t (option_map (λ w. string_bytes w.now) c.next-value_word.result)) c.as_str.ensures.value
    ∙ ap (choice_of c.args.command taken (string_bytes word)) two.0) in
    let first = first_fault c.args.command taken word after error (subst (IsFault error) same c.in_err-choice.ensures) in
    let left : options_of c.args.command taken (texts (word ∷ after)) ≡ options_of c.args.command [] (texts c.args.words.now) =
    ap (λ ws. options_of c.args.command taken (texts ws)) (sym c.in-Some.ensures.steps) ∙ c.loop-word.invariant.1 in
    carried c.from_residual.result error (options_of c.args.command [] (texts c.args.words.now)) c.from_residual.ensures.1 (subst (IsFault error) left first)

pub loop-word-preserved : goal.loop-word-preserved
loop-word-preserved c =
    let taken = c.loop-word.taken in
    let word = c.in-Some.word.now in
    let after = iter_rest c.next.new.self in
    let choice = c.in_ok-choice.choice in
    let two = second c.next.new.self c.next-value_word.new.self c.next-value_word.result c.next-value_word.ensures.steps in
    let same : choice_of c.args.command c.as_slice.result.now c.as_str.result.now (option_map (λ w. string_bytes w.now) c.next-value_word.result) ≡ choice_of c.args.command taken (string_bytes word) (behind_word after) =
    ap (λ t. choice_of c.args.command t c.as_str.result.now (option_map (λ w. string_bytes w.now) c.next-value_word.result)) c.as_slice.ensures
    ∙ (ap (λ t. choice_of c.args.command taken t (option_map (λ w. string_bytes w.now) c.next-value_word.result)) c.as_str.ensures.value
    ∙ ap (choice_of c.args.command taken (string_bytes word)) two.0) in
    let said : choice_of c.args.command taken (string_bytes word) (behind_word after) ≡ Names choice = sym same ∙ c.in_ok-choice.ensures in
    let is = right c.args.command taken (string_bytes word) (behind_word after) choice said in
    let pushed = c.in_ok-push.ensures.ok in
    let left : options_of c.args.command taken (texts (word ∷ after)) ≡ options_of c.args.command [] (texts c.args.words.now) =
    ap (λ ws. options_of c.args.command taken (texts ws)) (sym c.in-Some.ensures.steps) ∙ c.loop-word.invariant.1 in (
      subst IsSound (sym pushed) (more_sound taken choice c.loop-word.invariant.0 is.in_table is.fewer),
      ap (λ t. options_of c.args.command t (texts (iter_rest c.next-value_word.new.self))) pushed
          ∙ (ap (λ ws. options_of c.args.command (taken ++ choice ∷ []) (texts ws)) two.1
          ∙ (sym (first_right c.args.command taken word after choice said) ∙ left)),
    )

pub returns-clause-options : goal.returns-clause-options
returns-clause-options c =
    sym c.loop-word.invariant.1 ∙ none_left c.args.command c.loop-word.taken (iter_rest c.loop-word.rest) c.in_default.ensures.steps.0
