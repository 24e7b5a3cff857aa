-- The offer that a write makes.
use Rattle.std.specs.Prelude.{ℕ, ◌+◌, ◌*◌, ◌<◌, ◌^◌, List, ◌++◌}
use Rattle.gp_layout.specs.Spelling.{loss_size}
use Rattle.gp_ring.specs.Records.{Offer, RingRecord, IsOffer, words_for}
use Rattle.gp_ring.specs.PlainRing.{PlainRing}
use Rattle.gp_ring.specs.Follows.{Follows}

abbrev pub offer_of : (tag time : ℕ) (header stack : List ℕ) → Offer
offer_of tag time header stack = record { time = time; tag = tag; header = header; stack = stack }

-- whoever follows with these offers and records before does so after, with one offer more
abbrev pub GoesOn : PlainRing → PlainRing → List Offer → List RingRecord → Type 0
GoesOn old new more taken =
    (offers : List Offer) (records : List RingRecord) → Follows offers records old → Follows (offers ++ more) (records ++ taken) new

-- the numbers of the ring stay in the bits of its words, whatever becomes of the offer
pub record NumbersFit (ring : PlainRing) (offer : Offer) : Type 0 where
  pub offer_fits : IsOffer ring.hdrsize ring.len offer
  pub words : ring.written_words + 2 * words_for ring.hdrsize offer < 2 ^ 32
  pub words_pending : 0 < ring.pending → ring.written_words + 2 * loss_size ring.hdrsize + 2 * words_for ring.hdrsize offer < 2 ^ 32
  pub tags : ring.written_tags + 2 < 2 ^ 30
  pub pending : ring.pending + 2 < 2 ^ 32
  pub change : ring.change + 2 < 2 ^ 32
