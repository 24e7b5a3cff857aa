-- A line that is spelled in words says what was spelled.
use Rattle.std.proofs.Common.{◌≡◌, inl, inr, ℕ, suc, ◌^◌, ◌<◌, ◌≤◌, Bool, true, false, not, ◌&&◌, List, [], ◌∷◌, ◌++◌, length, get_or, take, drop, refl, ap, subst, ◌∙◌, arith, length-append, Some, nat_le, nat_lt}
use Rattle.std.specs.Prelude.{codes, decimal}
use Rattle.std.specs.List.{AllByRecursion, list_all, position_or_len}
use Rattle.std.specs.Char.{is_ascii_digit}
use Rattle.std.specs.Str.{IsUtf8, is_utf8, all_ascii_digits}
use Rattle.std.proofs.lemmas.List.{append-nil, take_at, drop_at, take_all, drop_all}
use Rattle.std.proofs.lemmas.Bool.Decides.{nat_tests}
use Rattle.std.proofs.lemmas.Str.{IsUtf8-nil, IsUtf8-append, IsUtf8-from_ascii, is_utf8-from_IsUtf8}
use Rattle.std.proofs.lemmas.Fmt.{digits_decimal, digits_value-decimal, length-decimal-le, decimal_nonempty, IsAscii-decimal}
use Rattle.gp_text.specs.Pieces.{is_blank, is_lf, words_of}
use Rattle.gp_text.specs.Line.{begins_name, continues_name, has_length, is_name, is_numeral, number, spoken, said_of}
use Rattle.gp_text.proofs.Told.{told}
use Rattle.gp_text.proofs.Texts.{both_left, both_right, all_ascii, own}
use Rattle.gp_text.proofs.WordCuts.{is_clean, IsClean, next_of, first_cut}

-- A word has bytes, none of which is a blank or an LF.
abbrev pub IsWord : List ℕ → Type 0
IsWord w = (0 < length w) × IsClean w

-- words behind a first one, a blank before each
abbrev pub behind : List (List ℕ) → List ℕ
behind [] = []
behind (w ∷ ws) = 32 ∷ w ++ behind ws

not_blank : (b : ℕ) → is_clean b ≡ true → is_blank b ≡ false
not_blank b h = elim (told (is_blank b)) [
  | inl t ↦ let e : false ≡ true = rw t at h in absurd cc
  | inr f ↦ f
]

place_behind : (w rest : List ℕ) → IsClean w → position_or_len is_blank (w ++ 32 ∷ rest) ≡ length w
place_behind [] rest clean = refl
place_behind (b ∷ w) rest clean = let other = not_blank b clean.0 in rw (other, next_of (position_or_len is_blank (w ++ 32 ∷ rest))) (ap suc (place_behind w rest clean.1))

place_none : (w : List ℕ) → IsClean w → position_or_len is_blank w ≡ length w
place_none [] clean = refl
place_none (b ∷ w) clean = let other = not_blank b clean.0 in rw (other, next_of (position_or_len is_blank w)) (ap suc (place_none w clean.1))

begins_inner : (w rest : List ℕ) → IsWord w → is_blank (get_or (w ++ rest) 0 0) ≡ false
begins_inner [] rest word = absurd (omega (arith, word.0))
begins_inner (b ∷ w) rest word = not_blank b word.1.0

blank_first : (rest : List ℕ) → words_of (32 ∷ rest) ≡ words_of rest
unfolding words_of
blank_first rest = refl

pub no_bytes : words_of [] ≡ []
unfolding words_of
no_bytes = refl

word_front : (w rest : List ℕ) → IsWord w → words_of (w ++ 32 ∷ rest) ≡ w ∷ words_of rest
word_front w rest word =
    let bytes = w ++ 32 ∷ rest in
    let place = place_behind w rest word.1 in
    let some : 0 < length bytes = omega (arith, word.0, length-append w (32 ∷ rest)) in
    first_cut bytes some (begins_inner w (32 ∷ rest) word)
    ∙ ap (λ n. take n bytes ∷ words_of (drop n bytes)) place
    ∙ ap (λ l. l ∷ words_of (drop (length w) bytes)) (take_at w (32 ∷ rest) (length w) refl)
    ∙ ap (λ (l : List ℕ). w ∷ words_of l) (drop_at w (32 ∷ rest) (length w) refl)
    ∙ ap (λ l. w ∷ l) (blank_first rest)

word_alone : (w : List ℕ) → IsWord w → words_of w ≡ w ∷ []
word_alone w word =
    let place = place_none w word.1 in
    first_cut w word.0 (subst (λ (l : List ℕ). is_blank (get_or l 0 0) ≡ false) (append-nil w) (begins_inner w [] word))
    ∙ ap (λ n. take n w ∷ words_of (drop n w)) place
    ∙ ap (λ l. l ∷ words_of (drop (length w) w)) (take_all (length w) w (omega arith))
    ∙ ap (λ (l : List ℕ). w ∷ words_of l) (drop_all (length w) w (omega arith))
    ∙ ap (λ l. w ∷ l) no_bytes

pub words_joined : (w : List ℕ) (ws : List (List ℕ)) → AllByRecursion IsWord (w ∷ ws) → words_of (w ++ behind ws) ≡ w ∷ ws
words_joined w [] words = ap words_of (append-nil w) ∙ word_alone w words.0
words_joined w (v ∷ ws) words = word_front w (v ++ behind ws) words.0 ∙ ap (λ l. w ∷ l) (words_joined v ws words.1)

not_lf : (b : ℕ) → is_clean b ≡ true → is_lf b ≡ false
not_lf b h = elim (told (is_lf b)) [
  | inl t ↦ let e : (not (is_blank b) && false) ≡ true = rw t at h in let f = both_right (not (is_blank b)) false e in absurd cc
  | inr f ↦ f
]

-- joined words are one line, and a text where they are
line_append : (a b : List ℕ) → IsClean a → AllByRecursion (λ c. is_lf c ≡ false) b → AllByRecursion (λ c. is_lf c ≡ false) (a ++ b)
line_append [] b clean line = line
line_append (c ∷ a) b clean line = (not_lf c clean.0, line_append a b clean.1 line)

behind_line : (ws : List (List ℕ)) → AllByRecursion IsWord ws → AllByRecursion (λ c. is_lf c ≡ false) (behind ws)
behind_line [] words = tt
behind_line (w ∷ ws) words = (refl, line_append w (behind ws) words.0.1 (behind_line ws words.1))

pub joined_line : (w : List ℕ) (ws : List (List ℕ)) → AllByRecursion IsWord (w ∷ ws) → AllByRecursion (λ c. is_lf c ≡ false) (w ++ behind ws)
joined_line w ws words = line_append w (behind ws) words.0.1 (behind_line ws words.1)

low : (b : ℕ) → nat_lt b 128 ≡ true → b < 128
low b h = grind (arith, nat_tests)

-- a text of ASCII bytes
pub ascii_text : (bs : List ℕ) → list_all (λ b. nat_lt b 128) bs ≡ true → IsUtf8 bs
ascii_text bs h = IsUtf8-from_ascii bs (all_ascii (λ b. nat_lt b 128) low bs h)

blank_text : IsUtf8 (codes " ")
blank_text = ascii_text (codes " ") refl

behind_text : (ws : List (List ℕ)) → AllByRecursion IsUtf8 ws → IsUtf8 (behind ws)
behind_text [] texts = IsUtf8-nil
behind_text (w ∷ ws) texts = IsUtf8-append (codes " ") (w ++ behind ws) blank_text (IsUtf8-append w (behind ws) texts.0 (behind_text ws texts.1))

pub joined_text : (w : List ℕ) (ws : List (List ℕ)) → IsUtf8 w → AllByRecursion IsUtf8 ws → is_utf8 (w ++ behind ws) ≡ true
joined_text w ws text texts = is_utf8-from_IsUtf8 (w ++ behind ws) (IsUtf8-append w (behind ws) text (behind_text ws texts))

-- words are words: those that are written out, names and numbers
clean_all : (bs : List ℕ) → list_all is_clean bs ≡ true → IsClean bs
clean_all [] h = tt
clean_all (b ∷ bs) h = (both_left (is_clean b) (list_all is_clean bs) h, clean_all bs (both_right (is_clean b) (list_all is_clean bs) h))

positive : (n : ℕ) → nat_lt 0 n ≡ true → 0 < n
positive n h = grind (arith, nat_tests)

pub word_of : (bs : List ℕ) → list_all is_clean bs ≡ true → nat_lt 0 (length bs) ≡ true → IsWord bs
word_of bs h some = (positive (length bs) some, clean_all bs h)

high_clean : (b : ℕ) → 33 ≤ b → is_clean b ≡ true
high_clean b h = grind (arith, nat_tests)

clean_by : (p : ℕ → Bool) → ((b : ℕ) → p b ≡ true → 33 ≤ b) → (bs : List ℕ) → list_all p bs ≡ true → IsClean bs
clean_by p high [] h = tt
clean_by p high (b ∷ bs) h = (high_clean b (high b (both_left (p b) (list_all p bs) h)), clean_by p high bs (both_right (p b) (list_all p bs) h))

high_name : (b : ℕ) → continues_name b ≡ true → 33 ≤ b
high_name b h = grind (arith, nat_tests)

high_digit : (b : ℕ) → is_ascii_digit b ≡ true → 33 ≤ b
high_digit b h = grind (arith, nat_tests)

pub name_word : (name : List ℕ) → is_name name ≡ true → IsWord name
unfolding is_name
name_word name h =
    let sized = both_left (has_length 64 name) (begins_name (get_or name 0 0) && list_all continues_name name) h in
    let some = both_left (nat_le 1 (length name)) (nat_le (length name) 64) sized in
    let all = both_right (begins_name (get_or name 0 0)) (list_all continues_name name) (both_right (has_length 64 name) (begins_name (get_or name 0 0) && list_all continues_name name) h) in
    (grind (arith, nat_tests), clean_by continues_name high_name name all)

each_digit : (bs : List ℕ) → all_ascii_digits bs ≡ true → list_all is_ascii_digit bs ≡ true
each_digit [] h = refl
each_digit (b ∷ bs) h = rw (both_left (is_ascii_digit b) (all_ascii_digits bs) h, each_digit bs (both_right (is_ascii_digit b) (all_ascii_digits bs) h)) refl

decimal_digits : (n : ℕ) → n < 2 ^ 64 → list_all is_ascii_digit (decimal n) ≡ true
decimal_digits n h = each_digit (decimal n) (digits_decimal own n h)

pub number_word : (n : ℕ) → n < 2 ^ 64 → IsWord (decimal n)
number_word n h = (decimal_nonempty n h, clean_by is_ascii_digit high_digit (decimal n) (decimal_digits n h))

pub number_text : (n : ℕ) → n < 2 ^ 64 → IsUtf8 (decimal n)
number_text n h = IsUtf8-from_ascii (decimal n) (IsAscii-decimal n h)

sized : (n : ℕ) → 1 ≤ n → n ≤ 20 → (nat_le 1 n && nat_le n 20) ≡ true
sized n one few = grind (arith, nat_tests)

pub number_decimal : (n : ℕ) → n < 2 ^ 64 → number (decimal n) ≡ Some n
unfolding is_numeral
number_decimal n h =
    let some = decimal_nonempty n h in
    let few = length-decimal-le 20 n (omega arith) (omega arith) h in
    let all : (has_length 20 (decimal n) && list_all is_ascii_digit (decimal n)) ≡ true = rw (sized (length (decimal n)) (omega arith) few, decimal_digits n h) refl in
    rw (all, digits_value-decimal own n h) refl

-- What a line of such words says.
pub said_joined : (within : Bool) (w : List ℕ) (ws : List (List ℕ)) → AllByRecursion IsWord (w ∷ ws) → IsUtf8 w → AllByRecursion IsUtf8 ws → said_of within (w ++ behind ws) ≡ spoken within (w ∷ ws)
unfolding said_of
said_joined within w ws words text texts = rw (joined_text w ws text texts, words_joined w ws words) refl
