-- How a file is cut into lines at its first LF.
use Rattle.std.proofs.Common.{◌≡◌, inl, inr, ℕ, zero, suc, ◌+◌, ◌<◌, ◌≤◌, Bool, true, false, List, [], ◌∷◌, ◌++◌, length, take, drop, refl, sym, ap, ◌∙◌, arith, add-one, append_assoc, Some, None, nat_lt, ◌==◌, length-append}
use Rattle.std.specs.Prelude.{position}
use Rattle.std.specs.List.{position_or_len}
use Rattle.std.proofs.lemmas.List.{length-drop, append-nil}
use Rattle.std.proofs.lemmas.Bool.Decides.{nat_tests}
use Rattle.gp_text.proofs.Told.{told}
use Rattle.gp_text.specs.declared.said.Said.{Said}
use Rattle.gp_text.specs.declared.said.Said.TheVariants.{Declares}
use Rattle.gp_text.specs.declared.said.Declared.TheVariants.{Function}
use Rattle.gp_text.specs.Pieces.{is_lf, with_byte, lines_of}
use Rattle.gp_text.specs.Line.{said_of, said_from, deep_after}

-- the place of the first one that passes, where there is one
pub position_some : (p : ℕ → Bool) (xs : List ℕ) (i : ℕ) → position p xs ≡ Some i → position_or_len p xs ≡ i
position_some p xs i h = elim (told (nat_lt (position_or_len p xs) (length xs))) [
  | inl t ↦ let e : Some (position_or_len p xs) ≡ Some i = rw t at h in cc
  | inr f ↦ let e : None ≡ Some i = rw f at h in absurd cc
]

pub position_none : (p : ℕ → Bool) (xs : List ℕ) → position p xs ≡ None → length xs ≤ position_or_len p xs
position_none p xs h = elim (told (nat_lt (position_or_len p xs) (length xs))) [
  | inl t ↦ let e : Some (position_or_len p xs) ≡ None = rw t at h in absurd cc
  | inr f ↦ grind (arith, nat_tests)
]

first_of : (bytes : List ℕ) (n : ℕ) → position_or_len is_lf bytes ≡ n → n < length bytes → lines_of bytes ≡ take n bytes ∷ lines_of (drop (suc n) bytes)
first_of [] n is within = absurd (omega arith)
first_of (b ∷ bytes) zero is within = elim (told (is_lf b)) [
  | inl t ↦ rw t refl
  | inr f ↦ let e : 1 + position_or_len is_lf bytes ≡ 0 = rw f at is in absurd (omega arith)
]
first_of (b ∷ bytes) (suc n) is within = elim (told (is_lf b)) [
  | inl t ↦ let e : 0 ≡ suc n = rw t at is in absurd (omega arith)
  | inr f ↦
      let e : 1 + position_or_len is_lf bytes ≡ suc n = rw f at is in
      let less : position_or_len is_lf bytes ≡ n = omega arith in
      let inside : n < length bytes = omega arith in
      rw f (ap (with_byte b) (first_of bytes n less inside))
]

last_of : (b : ℕ) (bytes : List ℕ) → length (b ∷ bytes) ≤ position_or_len is_lf (b ∷ bytes) → lines_of (b ∷ bytes) ≡ (b ∷ bytes) ∷ []
last_of b [] none = elim (told (is_lf b)) [
  | inl t ↦ let e : length (b ∷ []) ≤ 0 = rw t at none in absurd (omega arith)
  | inr f ↦ rw f refl
]
last_of b (c ∷ bytes) none = elim (told (is_lf b)) [
  | inl t ↦ let e : length (b ∷ c ∷ bytes) ≤ 0 = rw t at none in absurd (omega arith)
  | inr f ↦
      let e : length (b ∷ c ∷ bytes) ≤ 1 + position_or_len is_lf (c ∷ bytes) = rw f at none in
      let less : length (c ∷ bytes) ≤ position_or_len is_lf (c ∷ bytes) = omega arith in
      rw f (ap (with_byte b) (last_of c bytes less))
]

pub some_of : (n : ℕ) → (n == 0) ≡ false → 0 < n
some_of n h = grind (arith, nat_tests)

pub none_of : (n : ℕ) → (n == 0) ≡ true → n ≡ 0
none_of n h = grind (arith, nat_tests)

-- the first line, cut at the first LF
pub first_line : (bytes : List ℕ) (at : ℕ) → position is_lf bytes ≡ Some at → at < length bytes → lines_of bytes ≡ take at bytes ∷ lines_of (drop (at + 1) bytes)
first_line bytes at is within = rw add-one (first_of bytes at (position_some is_lf bytes at is) within)

-- bytes without LF are one line
pub last_line : (bytes : List ℕ) → position is_lf bytes ≡ None → 0 < length bytes → lines_of bytes ≡ bytes ∷ []
last_line [] none some = absurd (omega arith)
last_line (b ∷ bytes) none some = last_of b bytes (position_none is_lf (b ∷ bytes) none)

pub no_line : (bytes : List ℕ) → length bytes ≡ 0 → lines_of bytes ≡ []
no_line [] none = refl
no_line (b ∷ bytes) none = absurd (omega arith)

pub one_deeper : (deep : ℕ) (s : Said) → deep_after deep s ≤ deep + 1
one_deeper deep (Declares name Function) = omega arith
one_deeper deep (Declares name declared) = omega arith
one_deeper deep s = omega arith

-- one more line is read
pub read_line : (built now : List Said) (deep next : ℕ) (s : Said) (rest line after bytes : List ℕ) (at : ℕ) → built ++ said_from deep (lines_of rest) ≡ said_from 0 (lines_of bytes) → position is_lf rest ≡ Some at → at < length rest →
    line ≡ take at rest → after ≡ drop (at + 1) rest → s ≡ said_of (nat_lt 0 deep) line → next ≡ deep_after deep s → now ≡ built ++ s ∷ [] → now ++ said_from next (lines_of after) ≡ said_from 0 (lines_of bytes)
unfolding said_from
read_line built now deep next s rest line after bytes at inv is within line_is after_is s_is next_is pushed =
    let front : lines_of rest ≡ line ∷ lines_of after = rw (line_is, after_is) (first_line rest at is within) in
    let said : said_from deep (lines_of rest) ≡ s ∷ said_from next (lines_of after) = ap (said_from deep) front ∙ rw (next_is, s_is) refl in
    ap (λ l. l ++ said_from next (lines_of after)) pushed ∙ append_assoc built (s ∷ []) (said_from next (lines_of after)) ∙ ap (λ (l : List Said). built ++ l) (sym said) ∙ inv

pub read_few : (built now : List Said) (s : Said) (rest after : List ℕ) (most at : ℕ) → length built + length rest ≤ most → at < length rest → after ≡ drop (at + 1) rest → now ≡ built ++ s ∷ [] → length now + length after ≤ most
read_few built now s rest after most at inv within after_is pushed = omega (arith, ap length pushed, length-append built (s ∷ []), ap length after_is, length-drop (at + 1) rest)

-- no more bodies are open than lines were read
pub read_deep : (built now : List Said) (deep next : ℕ) (s : Said) → deep ≤ length built → next ≡ deep_after deep s → now ≡ built ++ s ∷ [] → next ≤ length now
read_deep built now deep next s few next_is pushed = let more = one_deeper deep s in omega (arith, ap length pushed, length-append built (s ∷ []))

-- the last line is read, or there is none
pub read_last : (built now : List Said) (deep : ℕ) (rest bytes : List ℕ) → built ++ said_from deep (lines_of rest) ≡ said_from 0 (lines_of bytes) → position is_lf rest ≡ None → 0 < length rest →
    now ≡ built ++ said_of (nat_lt 0 deep) rest ∷ [] → now ≡ said_from 0 (lines_of bytes)
unfolding said_from
read_last built now deep rest bytes inv none some pushed =
    pushed ∙ ap (λ (l : List Said). built ++ l) (sym (ap (said_from deep) (last_line rest none some))) ∙ inv

pub read_over : (built now : List Said) (deep : ℕ) (rest bytes : List ℕ) → built ++ said_from deep (lines_of rest) ≡ said_from 0 (lines_of bytes) → length rest ≡ 0 → now ≡ built → now ≡ said_from 0 (lines_of bytes)
unfolding said_from
read_over built now deep rest bytes inv none same = same ∙ sym (append-nil built) ∙ ap (λ (l : List Said). built ++ l) (sym (ap (said_from deep) (no_line rest none))) ∙ inv
