-- A text with its escapes, from the first byte on that is escaped.
use Rattle.std.proofs.Common.{◌≡◌, ℕ, ◌+◌, ◌<◌, ◌≤◌, Bool, true, false, cond, ltb, List, [], ◌∷◌, ◌++◌, length, get_or, take, drop, Some, None, inl, inr, refl, sym, ap, ◌∙◌, append_assoc, arith}
use Rattle.std.specs.List.{flat_map, list_any, position, position_or_len}
use Rattle.std.proofs.lemmas.Bool.{cases_lt, cases_Bool, ltb-false, lt-leb, ne_eqb, or_parts, both_ways}
use Rattle.std.proofs.lemmas.List.{take-append-drop, drop_more, get_or-take, length-take, take_all}
use Rattle.std.proofs.lemmas.List.Concat.{flat_map-append}
use Rattle.std.proofs.lemmas.List.Elements.{All-from_get_or}
use Rattle.std.proofs.lemmas.List.Folds.{list_any_none}
use Rattle.std.proofs.lemmas.List.Quantifiers.{position-Some}
use Rattle.std.proofs.lemmas.List.Sums.{fails_before_first}
use Rattle.gp_report.specs.Dump.{is_marked, escape, escaped_byte, escaped}

plain_byte : (b : Bool) (x : ℕ) → b ≡ false → cond b (escape x) (x ∷ []) ≡ x ∷ []
plain_byte b x e = rw e refl

marked_byte : (b : Bool) (x : ℕ) → b ≡ true → cond b (escape x) (x ∷ []) ≡ escape x
marked_byte b x e = rw e refl

some_not_none : (b : Bool) (n : ℕ) → b ≡ true → cond b (Some n) None ≡ None → ⊥
some_not_none true n t e = cc
some_not_none false n t e = cc

take_whole : (xs : List ℕ) → take (length xs) xs ≡ xs
take_whole xs = take_all (length xs) xs (omega arith)

unmarked : (b : ℕ) → 128 ≤ b → is_marked b ≡ false
unmarked b le =
    rw (lt-leb b 32 (omega arith), ne_eqb b 127 (λ e. omega arith), ne_eqb b 92 (λ e. omega arith), ne_eqb b 35 (λ e. omega arith))
    (rw (ne_eqb b 61 (λ e. omega arith), ne_eqb b 58 (λ e. omega arith), ne_eqb b 124 (λ e. omega arith), ne_eqb b 64 (λ e. omega arith)) refl)

plain_same : (xs : List ℕ) → list_any is_marked xs ≡ false → flat_map escaped_byte xs ≡ xs
plain_same [] none = refl
plain_same (x ∷ xs) none =
    let parts = or_parts (is_marked x) (list_any is_marked xs) none in
    ap (λ (front : List ℕ). front ++ flat_map escaped_byte xs) (plain_byte (is_marked x) x parts.0)
    ∙ ap (λ (rest : List ℕ). x ∷ rest) (plain_same xs parts.1)

plain_front : (xs : List ℕ) (n : ℕ) → n ≤ length xs → ((k : ℕ) → k < n → is_marked (get_or xs k 0) ≡ false) → list_any is_marked (take n xs) ≡ false
plain_front xs n le fails =
    list_any_none is_marked (take n xs) (All-from_get_or (λ x. is_marked x ≡ false) (take n xs) 0 (λ i lt.
    let below : i < n = omega (arith, lt, length-take n xs) in
    ap is_marked (get_or-take n xs i 0 below) ∙ fails i below))

none_before : (xs : List ℕ) → position is_marked xs ≡ None → length xs ≤ position_or_len is_marked xs
none_before xs e = elim (cases_Bool (ltb (position_or_len is_marked xs) (length xs))) [
  | inl found ↦ absurd (some_not_none (ltb (position_or_len is_marked xs) (length xs)) (position_or_len is_marked xs) found e)
  | inr none ↦ ltb-false (position_or_len is_marked xs) (length xs) none
]

-- No byte is escaped.
pub escaped-none : (text : List ℕ) → position is_marked text ≡ None → escaped text ≡ text
unfolding escaped
escaped-none text e =
    let past = none_before text e in
    plain_same text (ap (list_any is_marked) (sym (take_whole text)) ∙ plain_front text (length text) (omega arith) (λ k lt. fails_before_first is_marked text k 0 (omega (arith, lt, past))))

-- The first byte that is escaped stands at a place.
pub escaped-at : (text : List ℕ) (at : ℕ) → position is_marked text ≡ Some at
    → escaped text ≡ take at text ++ (escape (get_or text at 0) ++ escaped (drop (at + 1) text))
unfolding escaped
escaped-at text at e =
    let there = position-Some is_marked text at 0 e in
    let split : text ≡ take at text ++ get_or text at 0 ∷ drop (at + 1) text = sym (take-append-drop at text) ∙ ap (λ (rest : List ℕ). take at text ++ rest) (drop_more text at 0 there.0) in
    ap (flat_map escaped_byte) split ∙ flat_map-append escaped_byte (take at text) (get_or text at 0 ∷ drop (at + 1) text)
    ∙ ap (λ (front : List ℕ). front ++ (escaped_byte (get_or text at 0) ++ flat_map escaped_byte (drop (at + 1) text))) (plain_same (take at text) (plain_front text at (omega (arith, there.0)) there.2))
    ∙ ap (λ (byte : List ℕ). take at text ++ (byte ++ flat_map escaped_byte (drop (at + 1) text))) (marked_byte (is_marked (get_or text at 0)) (get_or text at 0) there.1)

-- what is escaped is ASCII
pub marked_ascii : (b : ℕ) → is_marked b ≡ true → b < 128
marked_ascii b marked = elim (cases_lt b 128) [
  | inl lt ↦ lt
  | inr le ↦ absurd (both_ways (is_marked b) (unmarked b le) marked)
]

-- one piece more
pub escaped_more : (text : List ℕ) (at b : ℕ) (before behind old mid new whole : List ℕ) → position is_marked text ≡ Some at → b ≡ get_or text at 0
    → before ≡ take at text → behind ≡ drop (at + 1) text → mid ≡ old ++ before → new ≡ mid ++ escape b
    → old ++ escaped text ≡ whole → new ++ escaped behind ≡ whole
escaped_more text at b before behind old mid new whole e byte front rest one two so_far =
    let now : new ≡ (old ++ take at text) ++ escape (get_or text at 0) = two ∙ ap (λ (m : List ℕ). m ++ escape b) (one ∙ ap (λ (f : List ℕ). old ++ f) front) ∙ ap (λ (x : ℕ). (old ++ take at text) ++ escape x) byte in
    ap (λ (n : List ℕ). n ++ escaped behind) now
    ∙ ap (λ (r : List ℕ). ((old ++ take at text) ++ escape (get_or text at 0)) ++ escaped r) rest
    ∙ append_assoc (old ++ take at text) (escape (get_or text at 0)) (escaped (drop (at + 1) text))
    ∙ append_assoc old (take at text) (escape (get_or text at 0) ++ escaped (drop (at + 1) text))
    ∙ ap (λ (t : List ℕ). old ++ t) (sym (escaped-at text at e)) ∙ so_far
