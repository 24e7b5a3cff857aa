-- The data words of a ring: the word of a data count, and the records that lie between two counts.
use Rattle.std.specs.Prelude.{◌≡◌, ℕ, zero, suc, ◌+◌, ◌-◌, ◌%◌, ◌≤◌, if◌then◌else◌, ◌==◌, nat_lt}
use Rattle.std.specs.Prelude.{List, [], ◌∷◌, ◌++◌, length, take, drop, slice_index, slice_set}
use Rattle.gp_layout.specs.Place.{skip_of, start_of, raise_of}
use Rattle.gp_layout.specs.Words.{words_of, tags_of, counts_word}
use Rattle.gp_layout.specs.Spelling.{size_of}
use Rattle.gp_ring.specs.PlainRing.{Piece}

-- ---- by places: what an emission writes

-- xs with ys written from place `start` on
abbrev pub spliced : ℕ → List ℕ → List ℕ → List ℕ
spliced start ys xs = take start xs ++ ys ++ drop (start + length ys) xs

-- with the mark at place `at`, where words are passed over
abbrev pub marked : ℕ → ℕ → List ℕ → List ℕ
marked skip at xs = if nat_lt 0 skip then slice_set xs at 0 else xs

-- a record of these words is emitted, whose next place is `at`
abbrev pub put_at : ℕ → ℕ → List ℕ → List ℕ → List ℕ
put_at len at words xs = spliced (start_of at len (length words)) words (marked (skip_of at len (length words)) at xs)

-- ---- by counts: what lies there

-- the word of data count c
abbrev pub word_at : List ℕ → ℕ → ℕ → ℕ
word_at xs len c = slice_index xs (c % len)

-- the n words from data count c on
abbrev pub span : List ℕ → ℕ → ℕ → ℕ → List ℕ
span xs len zero c = []
span xs len (suc n) c = word_at xs len c ∷ span xs len n (c + 1)

-- the data count at which a record starts that comes at c: behind the words that are passed over, where a mark tells so
abbrev pub starts_at : List ℕ → ℕ → ℕ → ℕ
starts_at xs len c = if word_at xs len c == 0 then c + (len - c % len) else c

-- its number of words, and the data count behind it
abbrev pub size_at : List ℕ → ℕ → ℕ → ℕ
size_at xs len c = word_at xs len (starts_at xs len c)

abbrev pub ends_at : List ℕ → ℕ → ℕ → ℕ
ends_at xs len c = starts_at xs len c + size_at xs len c

-- the words of the n records from data count c on
abbrev pub records_at : List ℕ → ℕ → ℕ → ℕ → List (List ℕ)
records_at xs len zero c = []
records_at xs len (suc n) c = span xs len (size_at xs len c) (starts_at xs len c) ∷ records_at xs len n (ends_at xs len c)

-- the n tags from tag count t on
abbrev pub tags_at : List ℕ → ℕ → ℕ → ℕ → List ℕ
tags_at ts tags zero t = []
tags_at ts tags (suc n) t = word_at ts tags t ∷ tags_at ts tags n (t + 1)

-- records with their tags
abbrev pub pieces_of : List (List ℕ) → List ℕ → List Piece
pieces_of [] ts = []
pieces_of (ws ∷ wss) [] = []
pieces_of (ws ∷ wss) (t ∷ ts) = record { tag = t; words = ws } ∷ pieces_of wss ts

-- n whole records lie between the data counts c and e, each in one piece
abbrev pub Lie : List ℕ → ℕ → ℕ → ℕ → ℕ → ℕ → Type 0
Lie xs len hdrsize zero c e = c ≡ e
Lie xs len hdrsize (suc n) c e =
    (size_of hdrsize 0 ≤ size_at xs len c)
    × (starts_at xs len c % len + size_at xs len c ≤ len)
    × Lie xs len hdrsize n (ends_at xs len c) e

-- `w` after a record of so many words
pub record IsRaised (old new len size : ℕ) : Type 0 where
  pub words : words_of new ≡ words_of old + raise_of (words_of old % len) len size
  pub tags : tags_of new ≡ tags_of old + 1
  pub flags : old ≡ counts_word (words_of old) (tags_of old) → new ≡ counts_word (words_of new) (tags_of new)
