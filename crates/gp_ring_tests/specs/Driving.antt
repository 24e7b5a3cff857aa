-- What a driver of a ring knows of it, and one of its two ends.
use Rattle.std.specs.Prelude.{◌≡◌, ℕ, zero, suc, ◌≤◌, ◌<◌, ◌^◌, Bool, true, List, [], ◌∷◌, ◌++◌, length, IsSome}
use Rattle.gp_ring.specs.Records.{Offer, RingRecord, words_for_most}
use Rattle.gp_ring.specs.PlainRing.{PlainRing}
use Rattle.gp_ring.specs.Follows.{Follows}
use Rattle.gp_ring.specs.TwoEnds.{RingOf, WriterEnd, ReaderEnd}

-- the ring follows as many offers, of no more than so many words, and some records; and a look was made, if that is told
pub record Drives (ring : PlainRing) (count words : ℕ) (looked : Bool) : Type 0 where
  pub offers : List Offer
  pub records : List RingRecord
  pub follows : Follows offers records ring
  pub count_is : length offers ≡ count
  pub most : words_for_most ring.hdrsize offers ≤ words
  pub seen : looked ≡ true → IsSome ring.seen

-- both ends are of one ring; and no more offers were made, of no more words
pub record DrivesEnds (writer : WriterEnd) (reader : ReaderEnd) (offers words : ℕ) : Type 0 where
  pub one_ring : writer.ring ≡ reader.ring
  pub count_most : length writer.offers ≤ offers
  pub words_most : words_for_most writer.ring.hdrsize writer.offers ≤ words

-- the sample of a number
abbrev pub sample : ℕ → Offer
sample number = record { time = number; tag = number; header = 1 ∷ []; stack = 7 ∷ [] }

-- the samples of the first n numbers
abbrev pub numbered : ℕ → List Offer
numbered zero = []
numbered (suc n) = numbered n ++ sample n ∷ []

-- to a ring of header size 1 and 8 words at least so many may be offered
pub record IsSmall (ring : RingOf) (samples : ℕ) : Type 0 where
  pub header : ring.hdrsize ≡ 1
  pub words : 8 ≤ ring.len
  pub few : samples < 2 ^ 28
