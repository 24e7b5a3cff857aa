-- Digits, and the numbers that they write.
use Rattle.std.proofs.Common.{◌≡◌, ℕ, ◌<◌, ◌≤◌, ◌^◌, ◌%◌, List, length, Bool, true, false, cond, ap, ◌∙◌, Some, None, Result, Ok, Err, ◌&&◌, refl, arith, inl, inr, leb, eqb}
use Rattle.std.specs.Result.{result_ok}
use Rattle.std.specs.Str.{all_ascii_digits}
use Rattle.std.specs.Str.Parse.{ParsesUnsigned, digits_value}
use Rattle.std.proofs.lemmas.Bool.{eqb-true, eq-eqb, ne_eqb, cases_lt, and_parts, leb-true, lt-leb, le-leb, and_left, and_right}
use Rattle.std.proofs.lemmas.Str.Parse.{IsNumeralModel, numerals_by_value, tells_all_ascii_digits, parse_digits}
use Rattle.gp_words.specs.Numbers.{is_number, number_in, if_divides, divisor_in}

own : IsNumeralModel (λ ds. all_ascii_digits ds ≡ true) (digits_value 10)
own = numerals_by_value (λ ds. all_ascii_digits ds ≡ true) tells_all_ascii_digits

-- how long a number is, and that it's digits
pub number_parts : (word : List ℕ) → is_number word ≡ true → (1 ≤ length word) × (all_ascii_digits word ≡ true)
unfolding is_number
number_parts word is =
    let parts = and_parts (leb 1 (length word)) (leb (length word) 20 && all_ascii_digits word) is in
    (leb-true 1 (length word) parts.0, (and_parts (leb (length word) 20) (all_ascii_digits word) parts.1).1)

pub number_if : (word : List ℕ) → 1 ≤ length word → length word ≤ 20 → is_number word ≡ all_ascii_digits word
unfolding is_number
number_if word some few = simp (le-leb 1 (length word) some, le-leb (length word) 20 few)

pub none_empty : (word : List ℕ) → length word < 1 → is_number word ≡ false
unfolding is_number
none_empty word none = and_left (leb 1 (length word)) (leb (length word) 20 && all_ascii_digits word) (lt-leb 1 (length word) none)

pub none_long : (word : List ℕ) → 20 < length word → is_number word ≡ false
unfolding is_number
none_long word long =
    and_right (leb 1 (length word)) (leb (length word) 20 && all_ascii_digits word) (and_left (leb (length word) 20) (all_ascii_digits word) (lt-leb (length word) 20 long))

-- what is no number is none in any range
pub none_in : (least most : ℕ) (word : List ℕ) → is_number word ≡ false → number_in least most word ≡ None
unfolding number_in
none_in least most word none = simp none

pub value_in : (least most : ℕ) (word : List ℕ) → is_number word ≡ true → least ≤ digits_value 10 word → digits_value 10 word ≤ most → number_in least most word ≡ Some (digits_value 10 word)
unfolding number_in
value_in least most word is low high = simp (is, le-leb least (digits_value 10 word) low, le-leb (digits_value 10 word) most high)

pub value_below : (least most : ℕ) (word : List ℕ) → is_number word ≡ true → digits_value 10 word < least → number_in least most word ≡ None
unfolding number_in
value_below least most word is low = simp (is, lt-leb least (digits_value 10 word) low)

pub value_above : (least most : ℕ) (word : List ℕ) → is_number word ≡ true → most < digits_value 10 word → number_in least most word ≡ None
unfolding number_in
value_above least most word is high =
    simp (is, lt-leb (digits_value 10 word) most high, and_right (leb least (digits_value 10 word)) false refl)

-- a number that was parsed is the digits' value
pub parsed_some : {E : Type 0} (word : List ℕ) (r : Result ℕ E) (n : ℕ) → is_number word ≡ true → result_ok r ≡ Some n → ParsesUnsigned {E = E} 64 10 word r → digits_value 10 word ≡ n
parsed_some {E} word (Ok m) n is e h =
    let v = (parse_digits own {E = E} 64 word (Ok m) h (number_parts word is).1).1 in cc
parsed_some word (Err x) n is e h = absurd cc

-- a number that wasn't is too large
pub parsed_none : {E : Type 0} (word : List ℕ) (r : Result ℕ E) (least most : ℕ) → most < 2 ^ 64 → is_number word ≡ true → result_ok r ≡ None → ParsesUnsigned {E = E} 64 10 word r → number_in least most word ≡ None
parsed_none word (Ok m) least most fits is e h = absurd cc
parsed_none word (Err x) least most fits is e h =
    let parts = number_parts word is in
    let none = parse_digits own 64 word (Err x) h parts.1 in
    elim (cases_lt (digits_value 10 word) (2 ^ 64)) [
      | inl low ↦ absurd (none (omega arith, low))
      | inr high ↦ value_above least most word is (omega arith)
    ]

-- divisors of a number
pub divisor_none : (whole : ℕ) (word : List ℕ) → number_in 1 whole word ≡ None → divisor_in whole word ≡ None
unfolding divisor_in
divisor_none whole word e = ap (if_divides whole) e

pub divisor_some : (whole n : ℕ) (word : List ℕ) → number_in 1 whole word ≡ Some n → whole % n ≡ 0 → divisor_in whole word ≡ Some n
unfolding divisor_in
divisor_some whole n word e even = ap (if_divides whole) e ∙ ap (λ b. cond b (Some n) None) (eq-eqb (whole % n) 0 even)

pub divisor_not : (whole n : ℕ) (word : List ℕ) → number_in 1 whole word ≡ Some n → (whole % n ≡ 0 → ⊥) → divisor_in whole word ≡ None
unfolding divisor_in
divisor_not whole n word e odd = ap (if_divides whole) e ∙ ap (λ b. cond b (Some n) None) (ne_eqb (whole % n) 0 odd)

pub divides_is : (whole m n : ℕ) → if_divides whole (Some m) ≡ Some n → (m ≡ n) × (whole % m ≡ 0)
divides_is whole m n e = go (eqb (whole % m) 0) refl e where
  go : (b : Bool) → eqb (whole % m) 0 ≡ b → cond b (Some m) None ≡ Some n → (m ≡ n) × (whole % m ≡ 0)
  go true is e = (cc, eqb-true (whole % m) 0 is)
  go false is e = absurd cc
