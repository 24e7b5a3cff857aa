use Rattle.std.proofs.Common.{arith, sym, ◌∙◌, ap, length, List, ℕ}
use Rattle.std.specs.Str.{all_ascii_digits}
use Rattle.std.proofs.lemmas.Bool.{eqb-true, eqb-false}
use Rattle.gp_words.proofs.Digits.{none_empty, none_long, number_if}
use Rattle.gp_words.proofs.number.is_number.Goals as goal
use Rattle.gp_words.proofs.number.is_number.Goals.{then-is_empty-via-then-is_empty, then-is_empty-via-else-is_empty+then-digits-gt-NUMBER_DIGITS}

pub returns-then-is_empty : goal.returns-then-is_empty
returns-then-is_empty c =
    let word = c.args.word.now in
    let same = ap (λ (l : List ℕ). length l) c.as_bytes-digits.ensures.value in
    elim c.then-is_empty.branch [
      | then-is_empty-via-then-is_empty w ↦
          let none = eqb-true (length c.as_bytes-digits.result.now) 0 (sym (w.if-is_empty.ensures)) in
          sym (none_empty word (omega arith))
      | then-is_empty-via-else-is_empty+then-digits-gt-NUMBER_DIGITS w ↦ sym (none_long word (omega arith))
    ]

pub returns : goal.returns
returns c =
    let word = c.args.word.now in
    let same = ap (λ (l : List ℕ). length l) c.as_bytes-digits.ensures.value in
    let some = eqb-false (length c.as_bytes-digits.result.now) 0 (sym (c.if-is_empty.ensures)) in
    c.are_digits.ensures ∙ (ap all_ascii_digits c.as_bytes-digits.ensures.value ∙ sym (number_if word (omega arith) (omega arith)))
