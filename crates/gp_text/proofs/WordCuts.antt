-- How a line is cut into words.
use Rattle.std.proofs.Common.{◌≡◌, inl, inr, ℕ, suc, ◌+◌, ◌-◌, ◌<◌, ◌≤◌, Bool, true, false, not, ◌&&◌, List, [], ◌∷◌, ◌++◌, length, get_or, take, drop, refl, sym, ap, subst, ◌∙◌, arith, append_assoc, Some, None, lit<}
use Rattle.std.specs.Prelude.{position}
use Rattle.std.specs.List.{position_or_len, filter, list_any, AllByRecursion}
use Rattle.std.specs.Str.{IsUtf8}
use Rattle.std.proofs.lemmas.List.{append-nil, drop_all, take_all, take_at, drop_at, get_or_at, length_push, length-append, length-take, length-drop}
use Rattle.std.proofs.lemmas.Str.{IsUtf8-nil, IsUtf8-take, IsUtf8-drop, IsCharBoundary-before_ascii, IsCharBoundary-after_ascii}
use Rattle.std.proofs.lemmas.Bool.Decides.{nat_tests}
use Rattle.gp_text.proofs.Told.{told}
use Rattle.gp_text.proofs.Cuts.{position_some, position_none}
use Rattle.gp_text.specs.Line.{is_equals, pair_of}
use Rattle.gp_text.specs.Pieces.{with_byte, is_lf, lines_of, is_blank, pieces, has_bytes, words_of}

-- whether a byte belongs to a word
abbrev pub is_inner : ℕ → Bool
is_inner b = not (is_blank b)

-- the place one further on
pub next_of : (n : ℕ) → 1 + n ≡ suc n
next_of n = omega arith

-- blanks before the first word
pub skipped : (bytes : List ℕ) → words_of bytes ≡ words_of (drop (position_or_len is_inner bytes) bytes)
unfolding words_of
skipped [] = refl
skipped (b ∷ bytes) = elim (told (is_blank b)) [
  | inl t ↦ rw (t, next_of (position_or_len is_inner bytes)) (skipped bytes)
  | inr f ↦ rw f (rw f refl)
]

-- What stands behind the first blank, in pieces.
pub record Cut (bytes : List ℕ) : Type 0 where
  pub rest : List (List ℕ)
  pub pieces_are : pieces bytes ≡ take (position_or_len is_blank bytes) bytes ∷ rest
  pub words_are : filter has_bytes rest ≡ words_of (drop (position_or_len is_blank bytes) bytes)

pub cut_of : (bytes : List ℕ) → Cut bytes
unfolding words_of
cut_of [] = record { rest = []; pieces_are = refl; words_are = refl }
cut_of (b ∷ bytes) = elim (told (is_blank b)) [
  | inl t ↦ record { rest = pieces bytes; pieces_are = rw t refl; words_are = rw t (rw t refl) }
  | inr f ↦ let more = cut_of bytes in record {
    rest = more.rest;
    pieces_are = rw (f, next_of (position_or_len is_blank bytes)) (ap (with_byte b) more.pieces_are);
    words_are = rw (f, next_of (position_or_len is_blank bytes)) more.words_are;
  }
]

has_some : (p : List ℕ) → 0 < length p → has_bytes p ≡ true
has_some p h = grind (arith, nat_tests)

some_bytes : (b : ℕ) (bytes : List ℕ) → is_blank b ≡ false → has_bytes (take (position_or_len is_blank (b ∷ bytes)) (b ∷ bytes)) ≡ true
some_bytes b bytes f = rw (f, next_of (position_or_len is_blank bytes)) (has_some (b ∷ take (position_or_len is_blank bytes) bytes) (omega arith))

-- the first word, where the bytes begin with one
pub first_cut : (bytes : List ℕ) → 0 < length bytes → is_blank (get_or bytes 0 0) ≡ false → words_of bytes ≡ take (position_or_len is_blank bytes) bytes ∷ words_of (drop (position_or_len is_blank bytes) bytes)
unfolding words_of
first_cut [] some inner = absurd (omega arith)
first_cut (b ∷ bytes) some inner =
    let c = cut_of (b ∷ bytes) in
    let has = some_bytes b bytes inner in
    ap (filter has_bytes) c.pieces_are ∙ rw has (ap (λ l. take (position_or_len is_blank (b ∷ bytes)) (b ∷ bytes) ∷ l) c.words_are)

-- by what `position` answers
pub cut_some : (bytes word rest : List ℕ) (end : ℕ) → 0 < length bytes → is_blank (get_or bytes 0 0) ≡ false → position is_blank bytes ≡ Some end → word ≡ take end bytes → rest ≡ drop end bytes → words_of bytes ≡ word ∷ words_of rest
cut_some bytes word rest end some inner is word_is rest_is =
    let e = position_some is_blank bytes end is in rw (word_is, rest_is, ← e) (first_cut bytes some inner)

past_end : {X : Type 0} (p : X → Bool) (xs : List X) → position_or_len p xs ≤ length xs
past_end p [] = omega arith
past_end p (x ∷ xs) = elim (told (p x)) [
  | inl t ↦ rw t (omega arith)
  | inr f ↦ let more = past_end p xs in rw f (omega arith)
]

pub cut_none : (bytes word rest : List ℕ) → 0 < length bytes → is_blank (get_or bytes 0 0) ≡ false → position is_blank bytes ≡ None → word ≡ bytes → length rest ≡ 0 → words_of bytes ≡ word ∷ words_of rest
cut_none bytes word [] some inner is word_is rest_is =
    let none = position_none is_blank bytes is in
    let whole : take (position_or_len is_blank bytes) bytes ≡ bytes = take_all _ bytes none in
    let gone : drop (position_or_len is_blank bytes) bytes ≡ [] = drop_all _ bytes none in
    let cut = first_cut bytes some inner in
    rw word_is (cut ∙ ap (λ w. w ∷ words_of (drop (position_or_len is_blank bytes) bytes)) whole ∙ ap (λ (r : List ℕ). bytes ∷ words_of r) gone)
cut_none bytes word (b ∷ rest) some inner is word_is rest_is = absurd (omega arith)

-- the place of the first word
found_inner : (bytes : List ℕ) → position_or_len is_inner bytes < length bytes → is_blank (get_or (drop (position_or_len is_inner bytes) bytes) 0 0) ≡ false
found_inner [] within = absurd (omega arith)
found_inner (b ∷ bytes) within = elim (told (is_blank b)) [
  | inl t ↦ let less : 1 + position_or_len is_inner bytes < length (b ∷ bytes) = rw t at within in rw (t, next_of (position_or_len is_inner bytes)) (found_inner bytes (omega arith))
  | inr f ↦ rw f f
]

pub begins : (bytes rest : List ℕ) (start : ℕ) → position is_inner bytes ≡ Some start → start < length bytes → rest ≡ drop start bytes → (0 < length rest) × (is_blank (get_or rest 0 0) ≡ false)
begins bytes rest start is within rest_is =
    let e = position_some is_inner bytes start is in
    let less : position_or_len is_inner bytes < length bytes = rw e within in
    let inner : is_blank (get_or (drop start bytes) 0 0) ≡ false = subst (λ n. is_blank (get_or (drop n bytes) 0 0) ≡ false) e (found_inner bytes less) in
    (omega (arith, ap length rest_is, length-drop start bytes), rw rest_is inner)

pub words_behind : (bytes rest : List ℕ) (start : ℕ) → position is_inner bytes ≡ Some start → rest ≡ drop start bytes → words_of bytes ≡ words_of rest
words_behind bytes rest start is rest_is = let e = position_some is_inner bytes start is in rw (rest_is, ← e) (skipped bytes)

pub no_words : (bytes : List ℕ) → position is_inner bytes ≡ None → words_of bytes ≡ []
unfolding words_of
no_words bytes is = skipped bytes ∙ ap words_of (drop_all _ bytes (position_none is_inner bytes is))

-- Pieces of a text are texts: a blank is ASCII, so a text may be cut before and behind it.
is_ascii : (b : ℕ) → is_blank b ≡ true → b < 128
is_ascii b h = grind (arith, nat_tests)

pub cut_text : (front back : List ℕ) (b : ℕ) → b < 128 → IsUtf8 (front ++ b ∷ back) → IsUtf8 front × IsUtf8 back
cut_text front back b low u =
    let whole = front ++ b ∷ back in
    let within : length front < length whole = omega (arith, length-append front (b ∷ back)) in
    let byte : get_or whole (length front) 0 ≡ b = get_or_at front b back 0 (length front) refl in
    let ascii : get_or whole (length front) 0 < 128 = rw byte low in
    let behind : drop (length front + 1) whole ≡ back = ap (drop (length front + 1)) (sym (append_assoc front (b ∷ []) back)) ∙ drop_at (front ++ b ∷ []) back (length front + 1) (length_push front b) in (
      subst IsUtf8 (take_at front (b ∷ back) (length front) refl) (IsUtf8-take whole (length front) u (IsCharBoundary-before_ascii whole (length front) within ascii)),
      subst IsUtf8 behind (IsUtf8-drop whole (length front + 1) u (IsCharBoundary-after_ascii whole (length front) u within ascii)),
    )

-- the first piece behind bytes that stand before it, and the others
TextPieces : List ℕ → List (List ℕ) → Type 0
TextPieces front [] = ⊥
TextPieces front (piece ∷ more) = IsUtf8 (front ++ piece) × AllByRecursion IsUtf8 more

all_pieces : (ps : List (List ℕ)) → TextPieces [] ps → AllByRecursion IsUtf8 ps
unfolding TextPieces
all_pieces [] texts = absurd texts
all_pieces (p ∷ ps) texts = texts

one_byte_more : (front : List ℕ) (b : ℕ) (ps : List (List ℕ)) → TextPieces (front ++ b ∷ []) ps → TextPieces front (with_byte b ps)
unfolding TextPieces
one_byte_more front b [] texts = absurd texts
one_byte_more front b (p ∷ ps) texts = (subst IsUtf8 (append_assoc front (b ∷ []) p) texts.0, texts.1)

pieces_texts : (front bytes : List ℕ) → IsUtf8 (front ++ bytes) → TextPieces front (pieces bytes)
unfolding TextPieces
pieces_texts front [] u = (u, tt)
pieces_texts front (b ∷ bytes) u = elim (told (is_blank b)) [
  | inl t ↦
      let cut = cut_text front bytes b (is_ascii b t) u in
      rw t (rw (append-nil front) cut.0, all_pieces (pieces bytes) (pieces_texts [] bytes cut.1))
  | inr f ↦ rw f (one_byte_more front b (pieces bytes) (pieces_texts (front ++ b ∷ []) bytes (subst IsUtf8 (sym (append_assoc front (b ∷ []) bytes)) u)))
]

filtered : (P : List ℕ → Type 0) (p : List ℕ → Bool) (xs : List (List ℕ)) → AllByRecursion P xs → AllByRecursion P (filter p xs)
filtered P p [] all = tt
filtered P p (x ∷ xs) all = elim (told (p x)) [
  | inl t ↦ rw t (all.0, filtered P p xs all.1)
  | inr f ↦ rw f (filtered P p xs all.1)
]

pub words_texts : (line : List ℕ) → IsUtf8 line → AllByRecursion IsUtf8 (words_of line)
unfolding words_of
words_texts line u = filtered IsUtf8 has_bytes (pieces line) (all_pieces (pieces line) (pieces_texts [] line u))

-- Bytes that are neither blanks nor LFs.
abbrev pub is_clean : ℕ → Bool
is_clean b = not (is_blank b) && not (is_lf b)

abbrev pub IsClean : List ℕ → Type 0
IsClean bytes = AllByRecursion (λ b. is_clean b ≡ true) bytes

abbrev pub IsLine : List ℕ → Type 0
IsLine bytes = AllByRecursion (λ b. is_lf b ≡ false) bytes

with_line : (b : ℕ) (lines : List (List ℕ)) → is_lf b ≡ false → AllByRecursion IsLine lines → AllByRecursion IsLine (with_byte b lines)
with_line b [] one all = ((one, tt), tt)
with_line b (line ∷ lines) one all = ((one, all.0), all.1)

-- lines have no LF
pub lines_are : (bytes : List ℕ) → AllByRecursion IsLine (lines_of bytes)
lines_are [] = tt
lines_are (b ∷ bytes) = elim (told (is_lf b)) [
  | inl t ↦ rw t (tt, lines_are bytes)
  | inr f ↦ rw f (with_line b (lines_of bytes) f (lines_are bytes))
]

with_clean : (b : ℕ) (ps : List (List ℕ)) → is_clean b ≡ true → AllByRecursion IsClean ps → AllByRecursion IsClean (with_byte b ps)
with_clean b [] one all = ((one, tt), tt)
with_clean b (p ∷ ps) one all = ((one, all.0), all.1)

pieces_clean : (line : List ℕ) → IsLine line → AllByRecursion IsClean (pieces line)
pieces_clean [] single = (tt, tt)
pieces_clean (b ∷ line) single = elim (told (is_blank b)) [
  | inl t ↦ rw t (tt, pieces_clean line single.1)
  | inr f ↦ let one : is_clean b ≡ true = let lf = single.0 in rw (f, lf) refl in rw f (with_clean b (pieces line) one (pieces_clean line single.1))
]

pub words_clean : (line : List ℕ) → IsLine line → AllByRecursion IsClean (words_of line)
unfolding words_of
words_clean line single = filtered IsClean has_bytes (pieces line) (pieces_clean line single)

-- nothing stands behind all bytes
pub none_behind : (bytes : List ℕ) → length (take (length bytes - length bytes) (drop (length bytes) bytes)) ≡ 0
none_behind bytes = omega (arith, length-take (length bytes - length bytes) (drop (length bytes) bytes), length-drop (length bytes) bytes)

-- a pair's word is its key, `=` and its value
is_sixty_one : (b : ℕ) → is_equals b ≡ true → b ≡ 61
is_sixty_one b h = grind (arith, nat_tests)

pub split_word : (w : List ℕ) → list_any is_equals w ≡ true → w ≡ (pair_of w).key ++ 61 ∷ (pair_of w).value
split_word [] h = absurd cc
split_word (b ∷ w) h = elim (told (is_equals b)) [
  | inl t ↦ let e = is_sixty_one b t in rw (t, e) refl
  | inr f ↦
      let rest : list_any is_equals w ≡ true = rw f at h in
      let n = next_of (position_or_len is_equals w) in
      let m : suc (position_or_len is_equals w) + 1 ≡ suc (position_or_len is_equals w + 1) = omega arith in
      rw (f, n, m) (ap (λ l. b ∷ l) (split_word w rest))
]

no_place : (w : List ℕ) → list_any is_equals w ≡ false → position_or_len is_equals w ≡ length w
no_place [] h = refl
no_place (b ∷ w) h = elim (told (is_equals b)) [
  | inl t ↦ let e : true ≡ false = rw t at h in absurd cc
  | inr f ↦ let rest : list_any is_equals w ≡ false = rw f at h in rw (f, next_of (position_or_len is_equals w)) (ap suc (no_place w rest))
]

-- the key and the value of a word that is text
pub pair_texts : (w : List ℕ) → IsUtf8 w → IsUtf8 (pair_of w).key × IsUtf8 (pair_of w).value
pair_texts w u = elim (told (list_any is_equals w)) [
  | inl t ↦ cut_text (pair_of w).key (pair_of w).value 61 (lit< tt) (subst IsUtf8 (split_word w t) u)
  | inr f ↦
      let place = no_place w f in
      let key : take (position_or_len is_equals w) w ≡ w = take_all _ w (omega arith) in
      let value : drop (position_or_len is_equals w + 1) w ≡ [] = drop_all _ w (omega arith) in
      (subst IsUtf8 (sym key) u, subst IsUtf8 (sym value) IsUtf8-nil)
]
