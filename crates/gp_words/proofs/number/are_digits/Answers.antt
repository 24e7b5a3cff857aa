use Rattle.std.proofs.Common.{rules, tests, refl, ◌∙◌, ◌&&◌}
use Rattle.std.specs.Char.{is_ascii_digit}
use Rattle.std.specs.List.{list_all}
use Rattle.std.specs.Str.{all_ascii_digits}
use Rattle.std.proofs.lemmas.Iterator.{YieldsList-from_slice}
use Rattle.std.proofs.lemmas.Iterator.Search.{all_from_yields_List}
use Rattle.std.proofs.lemmas.List.Recursion.{same_from_clauses}
use Rattle.gp_words.proofs.number.are_digits.Goals as goal

pub returns : goal.returns
returns c =
    let s = c.args.word.now in
    let e = all_from_yields_List is_ascii_digit _ _ c.all.result c.all.ensures.ran (YieldsList-from_slice s (cc)) (λ x b q k. search (rules, tests)) in
    e ∙ same_from_clauses (list_all is_ascii_digit) all_ascii_digits (λ b rest. is_ascii_digit b && rest) refl (λ _ _. refl) (λ _ _. refl) s
