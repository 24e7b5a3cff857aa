-- A ring follows offers and records taken: what holds between a ring, all that was offered to it and all that was taken from it.
use Rattle.std.specs.Prelude.{◌≡◌, ◌+◌, ◌*◌, ◌<◌, ◌≤◌, ◌^◌, true, false, List, [], ◌∷◌, ◌++◌, map, length, IfSome}
use Rattle.gp_layout.specs.Spelling.{loss_size}
use Rattle.gp_ring.specs.Records.{Offer, RingRecord, Sample, Covers, head, fit_twice, words_for_all, words_for_most, IsOffer}
use Rattle.gp_ring.specs.PlainRing.{PlainRing, Seen, unread_records, pending_records}

-- every offer as a record that delivers it
abbrev pub samples : List Offer → List RingRecord
samples offers = map Sample offers

-- the records begin with the head of the offers
abbrev pub BeginsWithHead : PlainRing → List Offer → List RingRecord → Type 0
BeginsWithHead ring offers records = (rest : List RingRecord) × (samples (head ring.hdrsize ring.len ring.tags offers) ++ rest ≡ records)

-- where all offers fit twice over nothing is lost
pub record IsLossless (ring : PlainRing) (offers : List Offer) (records : List RingRecord) : Type 0 where
  pub none_pending : ring.pending ≡ 0
  pub delivered : records ≡ samples offers
  pub words : ring.written_words ≤ 2 * words_for_all ring.hdrsize offers

-- what still holds of what was seen
pub record IsSeen (ring : PlainRing) (seen : Seen) : Type 0 where
  pub from : ring.read_tags ≤ seen.tags
  pub to : seen.tags ≤ ring.written_tags
  -- the change number only rises, and at one change number the count does
  pub change : seen.change ≤ ring.change
  pub pending : ring.change ≡ seen.change → seen.pending ≤ ring.pending
  -- a pending loss that stands as it was seen stands behind the last record
  pub last : ring.change ≡ seen.change → ring.pending ≡ seen.pending → 0 < ring.pending → ring.written_tags ≡ seen.tags
  -- after an end mark that was seen nothing comes
  pub ended : seen.ended ≡ true → ring.ended ≡ true
  pub end_tags : seen.ended ≡ true → ring.written_tags ≡ seen.tags
  pub end_pending : seen.ended ≡ true → ring.pending ≡ seen.pending

pub record Follows (offers : List Offer) (records : List RingRecord) (ring : PlainRing) : Type 0 where
  -- the records taken, the unread ones and the pending loss cover the offers
  pub covered : Covers (records ++ unread_records ring ++ pending_records ring) offers
  pub begins : BeginsWithHead ring offers (records ++ unread_records ring)
  pub lossless : fit_twice ring.hdrsize ring.len ring.tags offers ≡ true → IsLossless ring offers (records ++ unread_records ring)
  pub unread : ring.read_tags + length ring.unread ≡ ring.written_tags
  pub seen : IfSome ring.seen (IsSeen ring)
  -- the offers bound the numbers
  pub words : ring.written_words ≤ 2 * words_for_most ring.hdrsize offers
  pub words_pending : 0 < ring.pending → ring.written_words + 2 * loss_size ring.hdrsize ≤ 2 * words_for_most ring.hdrsize offers
  pub tags : ring.written_tags + ring.pending ≤ length offers
  pub change : ring.change ≤ 2 * length offers
  pub change_pending : 0 < ring.pending → ring.change + 1 ≤ 2 * length offers

-- An offer may be made: the ring isn't closed, fewer than 2^30 offers came before, and the words of all, this one's too, are
-- twice over below 2^32.
pub record MayOffer (offers : List Offer) (ring : PlainRing) (offer : Offer) : Type 0 where
  pub open_ring : ring.ended ≡ false
  pub offer_fits : IsOffer ring.hdrsize ring.len offer
  pub few : length offers < 2 ^ 30
  pub words : 2 * words_for_most ring.hdrsize (offers ++ offer ∷ []) < 2 ^ 32

abbrev pub IsOfferable : PlainRing → Offer → Type 0
IsOfferable ring offer = (offers : List Offer) × (records : List RingRecord) × Follows offers records ring × MayOffer offers ring offer
