-- The course of a ring between two threads, as plain lists and numbers: what was offered to it, and where all of that is. Neither
-- places nor threads are named.
use Rattle.std.specs.Prelude.{◌≡◌, ℕ, ◌+◌, ◌*◌, ◌%◌, ◌<◌, ◌≤◌, ◌^◌, Bool, true, false, if◌then◌else◌, ◌==◌}
use Rattle.std.specs.Prelude.{List, [], ◌∷◌, ◌++◌, map, length, replicate}
use Rattle.std.specs.List.{AllByRecursion}
use Rattle.gp_layout.specs.Spelling.{loss_size}
use Rattle.gp_ring.specs.Records.{Offer, RingRecord, Covers, head, fit_twice, words_for_all, words_for_most, all_zero}
use Rattle.gp_ring.specs.PlainRing.{piece_for, record_of}
use Rattle.gp_ring.specs.Follows.{samples}
use Rattle.gp_ring.specs.Counts.{behind_all}

-- ---- records of offers and of losses

-- the record of a loss, told as what is offered: a header of zeros, and the count as its stack
abbrev pub loss_offer : (hdrsize count time : ℕ) → Offer
loss_offer hdrsize count time = record { time = time; tag = 0; header = replicate hdrsize 0; stack = count ∷ [] }

-- a loss, where it counts any offers
abbrev pub losses : (hdrsize count time : ℕ) → List Offer
losses hdrsize count time = if count == 0 then [] else loss_offer hdrsize count time ∷ []

-- what records say
abbrev pub record_for : ℕ → Offer → RingRecord
record_for hdrsize offer = record_of hdrsize (piece_for offer)

abbrev pub records_for : ℕ → List Offer → List RingRecord
records_for hdrsize offers = map (record_for hdrsize) offers

-- a record whose header has its size, and which has one stack word where it tells of a loss
pub record IsWhole (hdrsize : ℕ) (offer : Offer) : Type 0 where
  pub header_size : length offer.header ≡ hdrsize
  pub loss : all_zero offer.header ≡ true → length offer.stack ≡ 1

-- records begin with the head of offers, each delivered
abbrev pub StartsWithHead : (hdrsize len tags : ℕ) → List Offer → List RingRecord → Type 0
StartsWithHead hdrsize len tags offers records =
    (rest : List RingRecord) × (samples (head hdrsize len tags offers) ++ rest ≡ records)

-- ---- the course

pub record Course : Type 0 where
  -- the header words of each record, the data words and the tag words of the ring
  pub hdrsize : ℕ
  pub len : ℕ
  pub tags : ℕ
  -- the offers that are decided: each is to be delivered or is lost
  pub offers : List Offer
  -- the records that were taken, all and those of them that lay in the ring; and those that lie there still
  pub taken : List Offer
  pub pulled : List Offer
  pub unread : List Offer
  -- how many offers the pending loss counts, the overflow time, the change number
  pub pending : ℕ
  pub since : ℕ
  pub change : ℕ
  -- how many offers the loss counts that the writer took, to write it into the ring
  pub owed : ℕ
  pub ended : Bool

abbrev pub first_course : (hdrsize len tags : ℕ) → Course
first_course hdrsize len tags =
    record {
      hdrsize = hdrsize;
      len = len;
      tags = tags;
      offers = [];
      taken = [];
      pulled = [];
      unread = [];
      pending = 0;
      since = 0;
      change = 0;
      owed = 0;
      ended = false;
    }

-- the records that were written into the ring
abbrev pub kept_of : Course → List Offer
kept_of course = course.pulled ++ course.unread

-- and their words, as the data count of `w`
abbrev pub words_kept : Course → ℕ
words_kept course = behind_all course.len 0 (kept_of course)

-- all records: taken, unread, pending, and on the way into the ring
abbrev pub all_of : Course → List Offer
all_of course =
    course.taken
    ++ (course.unread
    ++ (losses course.hdrsize course.pending course.since ++ losses course.hdrsize course.owed course.since))

-- where all offers fit twice over nothing is lost
pub record IsLossless (course : Course) : Type 0 where
  pub none_pending : course.pending ≡ 0
  pub none_owed : course.owed ≡ 0
  pub delivered : records_for course.hdrsize (course.taken ++ course.unread) ≡ samples course.offers
  pub words : words_kept course ≤ 2 * words_for_all course.hdrsize course.offers

-- how large the numbers are, by the offers
pub record IsBounded (hdrsize : ℕ) (offers : List Offer) (words records pending owed change : ℕ) : Type 0 where
  pub few : length offers ≤ 2 ^ 30
  pub words_most : words ≤ 2 * words_for_most hdrsize offers
  pub words_pending : 0 < pending + owed → words + 2 * loss_size hdrsize ≤ 2 * words_for_most hdrsize offers
  pub records_most : records + (pending + owed) ≤ length offers
  pub change_most : change ≤ 2 * length offers
  pub change_pending : 0 < pending → change + 1 ≤ 2 * length offers

pub record IsSound (course : Course) : Type 0 where
  -- all records cover the offers in order, and begin with their head
  pub covered : Covers (records_for course.hdrsize (all_of course)) course.offers
  pub begins :
      StartsWithHead course.hdrsize course.len course.tags course.offers (records_for course.hdrsize (course.taken ++ course.unread))
  pub lossless : fit_twice course.hdrsize course.len course.tags course.offers ≡ true → IsLossless course
  pub whole : AllByRecursion (IsWhole course.hdrsize) course.unread
  pub bounded :
      IsBounded course.hdrsize course.offers (words_kept course) (length (kept_of course)) course.pending course.owed course.change
  -- the change number is even exactly where no loss is pending
  pub even : course.pending ≡ 0 → course.change % 2 ≡ 0
  pub odd : 0 < course.pending → course.change % 2 ≡ 1
  -- a loss is pending, or on the way into the ring
  pub one_loss : 0 < course.pending → course.owed ≡ 0

-- ---- what the writer does to it

-- an offer is delivered: its record lies in the ring
abbrev pub delivered : Course → Offer → Course
delivered course offer = record course { offers = course.offers ++ offer ∷ []; unread = course.unread ++ offer ∷ [] }

-- the overflow time is set
abbrev pub with_since : Course → ℕ → Course
with_since course now = record course { since = now }

-- an offer is lost, the first one, or one more
abbrev pub first_lost : Course → Offer → Course
first_lost course offer = record course { offers = course.offers ++ offer ∷ []; pending = 1; change = course.change + 1 }

abbrev pub one_lost : Course → Offer → Course
one_lost course offer = record course { offers = course.offers ++ offer ∷ []; pending = course.pending + 1 }

-- the writer takes the pending loss, to write it into the ring, and it lies there
abbrev pub owing : Course → Course
owing course = record course { pending = 0; change = course.change + 1; owed = course.pending }

abbrev pub paid : Course → Course
paid course = record course { unread = course.unread ++ loss_offer course.hdrsize course.owed course.since ∷ []; owed = 0 }

abbrev pub with_end : Course → Course
with_end course = record course { ended = true }

-- ---- what the reader does to it

-- it takes the first ones of the unread records, and leaves the rest
abbrev pub with_batch : Course → (ahead rest : List Offer) → Course
with_batch course ahead rest = record course { taken = course.taken ++ ahead; pulled = course.pulled ++ ahead; unread = rest }

-- it takes the pending loss
abbrev pub lifted : Course → Course
lifted course =
    record course {
      taken = course.taken ++ loss_offer course.hdrsize course.pending course.since ∷ [];
      pending = 0;
      change = course.change + 1;
    }
