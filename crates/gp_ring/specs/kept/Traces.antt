-- Traces of records in the words that two threads share: words, each with the count at which it lies.
use Rattle.std.specs.Prelude.{◌≡◌, ℕ, zero, suc, ◌+◌, ◌%◌, ◌<◌, ◌≤◌, List, [], ◌∷◌, ◌++◌, map, length, slice_index}
use Rattle.gp_layout.specs.Place.{skip_of}
use Rattle.gp_ring.specs.Records.{Offer}
use Rattle.gp_ring.specs.PlainRing.{piece_for}
use Rattle.gp_ring.specs.Counts.{behind}

-- words one behind the other, from count c on
abbrev pub from_count : ℕ → List ℕ → List (ℕ × ℕ)
from_count c [] = []
from_count c (word ∷ words) = (c, word) ∷ from_count (c + 1) words

-- the mark, where words are passed over
abbrev pub mark_of : (skip c : ℕ) → List (ℕ × ℕ)
mark_of zero c = []
mark_of (suc n) c = (c, 0) ∷ []

-- how many words are passed over before an offer's record that comes at data count c
abbrev pub skip_before : (len c : ℕ) → Offer → ℕ
skip_before len c offer = skip_of (c % len) len (length (piece_for offer).words)

-- the record of an offer that comes at data count c of a ring of len data words: behind the mark, if there is one
abbrev pub laid_at : (len c : ℕ) → Offer → List (ℕ × ℕ)
laid_at len c offer = mark_of (skip_before len c offer) c ++ from_count (c + skip_before len c offer) (piece_for offer).words

-- the records of all offers
abbrev pub all_laid : (len c : ℕ) → List Offer → List (ℕ × ℕ)
all_laid len c [] = []
all_laid len c (offer ∷ offers) = laid_at len c offer ++ all_laid len (behind len c offer) offers

-- their tags, from tag count t on
abbrev pub tags_from : ℕ → List Offer → List (ℕ × ℕ)
tags_from t offers = from_count t (map (λ offer. offer.tag) offers)

-- Each word of a trace has a count below `next`; and from count `from` on it stands, at the place of its count, among the
-- `width` words from index `base` on.
abbrev pub Stands : (words : List ℕ) (base width from next : ℕ) → List (ℕ × ℕ) → Type 0
Stands words base width from next [] = Unit {0}
Stands words base width from next (x ∷ trace) =
    (x.0 < next) × (from ≤ x.0 → slice_index words (base + x.0 % width) ≡ x.1) × Stands words base width from next trace

-- the first word of a trace, 0 where there is none
abbrev pub first_word : List (ℕ × ℕ) → ℕ
first_word [] = 0
first_word (x ∷ trace) = x.1

-- the first word of a trace lies at a place among `width`
abbrev pub IsDueAt : (place width : ℕ) → List (ℕ × ℕ) → Type 0
IsDueAt place width [] = ⊥
IsDueAt place width (x ∷ trace) = place ≡ x.0 % width

-- the first n words of a trace lie one behind the other from a place on
abbrev pub AreDueAt : (place width n : ℕ) → List (ℕ × ℕ) → Type 0
AreDueAt place width zero trace = Unit {0}
AreDueAt place width (suc n) [] = ⊥
AreDueAt place width (suc n) (x ∷ trace) = (place ≡ x.0 % width) × AreDueAt (place + 1) width n trace

-- the words of a trace
abbrev pub words_in : List (ℕ × ℕ) → List ℕ
words_in trace = map (λ x. x.1) trace

-- a trace begins with the record of an offer that comes at a data count, whose place is `at`
pub record IsRecordAt (len at : ℕ) (trace : List (ℕ × ℕ)) : Type 0 where
  pub count : ℕ
  pub offer : Offer
  pub rest : List (ℕ × ℕ)
  pub begins : trace ≡ laid_at len count offer ++ rest
  pub place : at ≡ count % len
  pub fits : length (piece_for offer).words ≤ len
