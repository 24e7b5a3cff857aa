-- Offers, the records that a reader takes, and when records cover offers. Nothing here says where a record lies.
use Rattle.std.specs.Prelude.{◌≡◌, ℕ, ◌+◌, ◌-◌, ◌*◌, ◌≤◌, Bool, true, false, ◌&&◌, if◌then◌else◌, nat_le, nat_eq, max}
use Rattle.std.specs.Prelude.{List, [], ◌∷◌, length, drop}
use Rattle.gp_layout.specs.Spelling.{size_of, loss_size}

-- what is offered to the ring: a sample with its tag, and the time at which it is offered
pub record Offer : Type 0 where
  pub time : ℕ
  pub tag : ℕ
  pub header : List ℕ
  pub stack : List ℕ

-- what a reader takes: an offer, or how many offers were lost and when the first of them was made
pub data RingRecord : Type 0 where
  Sample : (offer : Offer) → RingRecord
  Loss : (count time : ℕ) → RingRecord

-- the time of the first offer
abbrev pub BeginsAt : ℕ → List Offer → Type 0
BeginsAt time [] = ⊥
BeginsAt time (offer ∷ offers) = time ≡ offer.time

-- Records cover offers: each offer is delivered, or counted in one loss, in order.
abbrev pub Covers : List RingRecord → List Offer → Type 0
Covers [] offers = offers ≡ []
Covers (Sample sample ∷ records) [] = ⊥
Covers (Sample sample ∷ records) (offer ∷ offers) = (sample ≡ offer) × Covers records offers
Covers (Loss count time ∷ records) offers =
    (1 ≤ count) × (count ≤ length offers) × BeginsAt time offers × Covers records (drop count offers)

-- how many words an offer's record has
abbrev pub words_for : ℕ → Offer → ℕ
words_for hdrsize offer = size_of hdrsize (length offer.stack)

-- the words of the records of all offers
abbrev pub words_for_all : ℕ → List Offer → ℕ
words_for_all hdrsize [] = 0
words_for_all hdrsize (offer ∷ offers) = words_for hdrsize offer + words_for_all hdrsize offers

-- the same, each offer counted as no fewer than the record of a loss has
abbrev pub words_for_most : ℕ → List Offer → ℕ
words_for_most hdrsize [] = 0
words_for_most hdrsize (offer ∷ offers) = max (words_for hdrsize offer) (loss_size hdrsize) + words_for_most hdrsize offers

-- the head of the offers: the longest front with at most `tags` offers and whose words are twice over at most `len`
abbrev pub head : (hdrsize len tags : ℕ) → List Offer → List Offer
head hdrsize len tags [] = []
head hdrsize len tags (offer ∷ offers) =
    if nat_le 1 tags && nat_le (2 * words_for hdrsize offer) len
    then offer ∷ head hdrsize (len - 2 * words_for hdrsize offer) (tags - 1) offers
    else []

-- all offers fit twice over
abbrev pub fit_twice : (hdrsize len tags : ℕ) → List Offer → Bool
fit_twice hdrsize len tags offers = nat_le (length offers) tags && nat_le (2 * words_for_all hdrsize offers) len

abbrev pub all_zero : List ℕ → Bool
all_zero [] = true
all_zero (word ∷ words) = nat_eq word 0 && all_zero words

-- what may be offered to a ring of so many words: the header has its size and isn't all zero, and the record has at most half
-- the ring's words
pub record IsOffer (hdrsize len : ℕ) (offer : Offer) : Type 0 where
  pub header_size : length offer.header ≡ hdrsize
  pub header_tells : all_zero offer.header ≡ false
  pub half : 2 * words_for hdrsize offer ≤ len
