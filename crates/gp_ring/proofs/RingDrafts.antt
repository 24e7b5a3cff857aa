-- What stores one behind the other make of the writer's view.
use Rattle.std.proofs.Common.{◌≡◌, ℕ, zero, suc, ◌+◌, ◌-◌, ◌%◌, ◌<◌, ◌≤◌, List, [], ◌∷◌, ◌++◌, length, take, get_or, ap, sym, ◌∙◌, append-nil, length-append, arith}
use Rattle.std.proofs.lemmas.List.{append_assoc, take_more, length-take-le}
use Rattle.gp_layout.specs.Words.{words_of}
use Rattle.atomic_table.specs.Table.{Me}
use Rattle.gp_ring.specs.kept.Traces.{from_count}
use Rattle.gp_ring.specs.kept.Views.{with_words, with_mark, passed_over}
use Rattle.gp_ring.specs.declared.between.view.View.{View}
use Rattle.gp_ring.proofs.Tracing.{from-append}
use Rattle.gp_ring.proofs.Rounds.{mod-add}

plus_none : (n : ℕ) → n + 0 ≡ n
plus_none n = omega arith

-- the view with another draft and another count behind it
abbrev drafted : View → List (ℕ × ℕ) → ℕ → View
drafted v draft next = record v { writer = record v.writer { draft = draft; next = next } }

pub words-none : (v : View) → with_words v [] ≡ v
words-none v = λ i. drafted v (append-nil v.writer.draft i) (plus_none v.writer.next i)

pub words-more : (v : View) (xs ys : List ℕ) → with_words (with_words v xs) ys ≡ with_words v (xs ++ ys)
words-more v xs ys =
    let p : (v.writer.draft ++ from_count v.writer.next xs) ++ from_count (v.writer.next + length xs) ys ≡ v.writer.draft ++ from_count v.writer.next (xs ++ ys) =
    append_assoc v.writer.draft (from_count v.writer.next xs) (from_count (v.writer.next + length xs) ys) ∙ ap (λ (t : List (ℕ × ℕ)). v.writer.draft ++ t) (sym (from-append v.writer.next xs ys)) in
    let q : v.writer.next + length xs + length ys ≡ v.writer.next + length (xs ++ ys) = (let l = length-append xs ys in omega arith) in
    λ i. drafted v (p i) (q i)

pub passed-none : (v : View) → v ≡ passed_over v 0
passed-none v = λ i. drafted v (sym (append-nil v.writer.draft) i) (sym (plus_none v.writer.next) i)

pub passed-mark : (v : View) (skip : ℕ) → 0 < skip → skip ≡ v.len - v.writer.next % v.len → with_mark v ≡ passed_over v skip
passed-mark v zero some e = absurd (omega arith)
passed-mark v (suc n) some e = λ i. drafted v (v.writer.draft ++ (v.writer.next, 0) ∷ []) (v.writer.next + sym e i)

-- a word more of a list is stored
pub words-step : {S : Type 0} (v : View) (rest : List (ℕ × S)) (me after : Me S View) (words : List ℕ) (i word : ℕ) → i < length words → word ≡ get_or words i 0
    → me ≡ (with_words v (take i words), rest) → after ≡ (with_words me.0 (word ∷ []), me.1) → after ≡ (with_words v (take (i + 1) words), rest)
words-step v rest me after words i word h is before then =
    then ∙ (λ j. (with_words ((before j).0) (is j ∷ []), (before j).1))
    ∙ ap (λ (u : View). (u, rest)) (words-more v (take i words) (get_or words i 0 ∷ []))
    ∙ ap (λ (ws : List ℕ). (with_words v ws, rest)) (sym (take_more words i 0 h))

-- where the next word of a list comes
module _ {S : Type 0} (v : View) (rest : List (ℕ × S)) (me : Me S View) (words : List ℕ) (i start : ℕ) (h : i < length words) (is : me ≡ (with_words v (take i words), rest))
    (place : 0 < length words → start ≡ v.writer.next % v.len) (within : start + length words ≤ v.len) where
  next-is : me.0.writer.next ≡ v.writer.next + i
  next-is = ap (λ (m : Me S View). m.0.writer.next) is ∙ ap (λ (k : ℕ). v.writer.next + k) (length-take-le i words (omega arith))

  len-is : me.0.len ≡ v.len
  len-is = ap (λ (m : Me S View). m.0.len) is

  pub place-is : start + i ≡ me.0.writer.next % me.0.len
  place-is =
      let s : start ≡ v.writer.next % v.len = place (omega arith) in
      ap (λ (k : ℕ). k + i) s ∙ sym (mod-add v.writer.next i v.len (omega arith)) ∙ (λ j. sym next-is j % sym len-is j)

  pub within-is : start + i < me.0.len
  within-is = let e = len-is in omega arith

  pub free-is : v.writer.next + length words ≤ words_of v.writer.read + v.len → me.0.writer.next < words_of me.0.writer.read + me.0.len
  free-is f = let e = len-is in let n = next-is in let r = ap (λ (m : Me S View). words_of m.0.writer.read) is in omega arith

-- words behind words
pub words-then : {S : Type 0} (v : View) (rest : List (ℕ × S)) (me after : Me S View) (xs ys : List ℕ) → me ≡ (with_words v xs, rest) → after ≡ (with_words me.0 ys, me.1)
    → after ≡ (with_words v (xs ++ ys), rest)
words-then v rest me after xs ys a b = b ∙ (λ i. (with_words ((a i).0) ys, (a i).1)) ∙ ap (λ (u : View). (u, rest)) (words-more v xs ys)

-- the place behind words, in the same round
pub behind-place : {S : Type 0} (v : View) (rest : List (ℕ × S)) (me : Me S View) (words : List ℕ) (start place : ℕ) → me ≡ (with_words v words, rest) → start ≡ v.writer.next % v.len
    → place ≡ start + length words → place < v.len → place ≡ me.0.writer.next % me.0.len
behind-place {S} v rest me words start place is s p within =
    let n = ap (λ (m : Me S View). m.0.writer.next) is in
    let l = ap (λ (m : Me S View). m.0.len) is in
    p ∙ ap (λ (k : ℕ). k + length words) s ∙ sym (mod-add v.writer.next (length words) v.len (omega arith)) ∙ (λ i. sym n i % sym l i)
