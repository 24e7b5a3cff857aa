-- Names and numbers are ASCII, and so UTF-8; a number's value is that of its digits.
use Rattle.std.proofs.Common.{◌≡◌, inl, inr, ℕ, zero, suc, ◌<◌, ◌≤◌, Bool, true, false, ◌&&◌, List, [], ◌∷◌, length, get_or, refl, ap, ◌∙◌, arith, Option, Some, Result, Ok, Err}
use Rattle.std.specs.Prelude.{MatchResult, IsOk}
use Rattle.std.specs.Result.{result_ok}
use Rattle.std.specs.List.{list_all}
use Rattle.std.specs.Char.{is_ascii_digit}
use Rattle.std.specs.Str.{IsUtf8, IsAscii, is_utf8, all_ascii_digits}
use Rattle.std.specs.Str.Parse.{digits_value, ParsesUnsigned}
use Rattle.std.proofs.lemmas.Str.{IsUtf8-from_ascii, IsUtf8-from_is_utf8}
use Rattle.std.proofs.lemmas.Str.Parse.{IsNumeralModel, numerals_by_value, tells_all_ascii_digits, parse_gives, digits_value_short}
use Rattle.std.proofs.lemmas.Bool.Decides.{nat_tests}
use Rattle.gp_text.proofs.Told.{told}
use Rattle.gp_text.specs.Line.{begins_name, continues_name, has_length, is_name, is_numeral}

pub both_left : (a b : Bool) → (a && b) ≡ true → a ≡ true
both_left true b h = refl
both_left false b h = h

pub both_right : (a b : Bool) → (a && b) ≡ true → b ≡ true
both_right true b h = h
both_right false b h = absurd cc

pub all_ascii : (p : ℕ → Bool) → ((b : ℕ) → p b ≡ true → b < 128) → (bs : List ℕ) → list_all p bs ≡ true → IsAscii bs
all_ascii p low [] h i = omega arith
all_ascii p low (b ∷ bs) h zero = low b (both_left (p b) (list_all p bs) h)
all_ascii p low (b ∷ bs) h (suc i) = all_ascii p low bs (both_right (p b) (list_all p bs) h) i

low_name : (b : ℕ) → continues_name b ≡ true → b < 128
low_name b h = grind (arith, nat_tests)

low_digit : (b : ℕ) → is_ascii_digit b ≡ true → b < 128
low_digit b h = grind (arith, nat_tests)

pub name_utf8 : (bs : List ℕ) → is_name bs ≡ true → IsUtf8 bs
unfolding is_name
name_utf8 bs h = IsUtf8-from_ascii bs (all_ascii continues_name low_name bs (both_right (begins_name (get_or bs 0 0)) (list_all continues_name bs) (both_right (has_length 64 bs) (begins_name (get_or bs 0 0) && list_all continues_name bs) h)))

numeral_digits : (bs : List ℕ) → is_numeral bs ≡ true → list_all is_ascii_digit bs ≡ true
unfolding is_numeral
numeral_digits bs h = both_right (has_length 20 bs) (list_all is_ascii_digit bs) h

numeral_length : (bs : List ℕ) → is_numeral bs ≡ true → (0 < length bs) × (length bs ≤ 20)
unfolding is_numeral
numeral_length bs h = let l = both_left (has_length 20 bs) (list_all is_ascii_digit bs) h in (grind (arith, nat_tests), grind (arith, nat_tests))

pub numeral_utf8 : (bs : List ℕ) → is_numeral bs ≡ true → IsUtf8 bs
numeral_utf8 bs h = IsUtf8-from_ascii bs (all_ascii is_ascii_digit low_digit bs (numeral_digits bs h))

same_digits : (bs : List ℕ) → list_all is_ascii_digit bs ≡ true → all_ascii_digits bs ≡ true
same_digits [] h = refl
same_digits (b ∷ bs) h = rw (both_left (is_ascii_digit b) (list_all is_ascii_digit bs) h, same_digits bs (both_right (is_ascii_digit b) (list_all is_ascii_digit bs) h)) refl

pub own : IsNumeralModel (λ ds. all_ascii_digits ds ≡ true) (digits_value 10)
own = numerals_by_value (λ ds. all_ascii_digits ds ≡ true) tells_all_ascii_digits

pub numeral_parses : {E : Type 0} (bs : List ℕ) (r : Result ℕ E) → is_numeral bs ≡ true → ParsesUnsigned 128 10 bs r → r ≡ Ok (digits_value 10 bs)
numeral_parses bs r h parses =
    let size = numeral_length bs h in
    let digits = same_digits bs (numeral_digits bs h) in
    let short = digits_value_short own bs 20 digits size.1 in
    parse_gives own 128 bs r parses digits size.0 (omega arith)

pub no_text : (bs : List ℕ) → ¬ (IsUtf8 bs) → is_utf8 bs ≡ false
no_text bs none = elim (told (is_utf8 bs)) [
  | inl t ↦ absurd (none (IsUtf8-from_is_utf8 bs t))
  | inr f ↦ f
]

-- what `parse` and `ok` give of a text that is these bytes
pub valued : {E : Type 0} (text bytes : List ℕ) (r : Result ℕ E) (o : Option ℕ) → text ≡ bytes → is_numeral bytes ≡ true → ParsesUnsigned 128 10 text r → o ≡ result_ok r → o ≡ Some (digits_value 10 bytes)
valued text bytes r o same h parses is =
    let numeral : is_numeral text ≡ true = ap is_numeral same ∙ h in
    is ∙ ap result_ok (numeral_parses text r numeral parses) ∙ ap (λ (bs : List ℕ). Some (digits_value 10 bs)) same

-- a call that answers Err only where the bytes aren't UTF-8
pub ok_at_text : {T E : Type 0} (bytes : List ℕ) (r : Result T E) (P : T → Type 0) (Q : E → Type 0) → IsUtf8 bytes → MatchResult r P (λ e. ¬ (IsUtf8 bytes) × Q e) → IsOk r
ok_at_text bytes (Ok x) P Q utf8 h = refl
ok_at_text bytes (Err e) P Q utf8 h = absurd (h.0 utf8)
