-- The ring as plain lists and numbers, and what each call does to it.
use Rattle.std.specs.Prelude.{ℕ, ◌+◌, ◌-◌, ◌%◌, Bool, true, false, ◌&&◌, ◌||◌, if◌then◌else◌, nat_lt, ◌==◌, Option, None, Some}
use Rattle.std.specs.Prelude.{List, [], ◌∷◌, ◌++◌, map, length, take, drop, replicate, slice_index}
use Rattle.std.specs.List.{flat_map}
use Rattle.gp_layout.specs.Words.{counts_word, overflow_word}
use Rattle.gp_layout.specs.Place.{raise_of}
use Rattle.gp_layout.specs.Room.{room_for_one, room_for_two}
use Rattle.gp_layout.specs.Spelling.{spelled, loss_size}
use Rattle.gp_ring.specs.Records.{Offer, RingRecord, Sample, Loss, all_zero, words_for}
use Rattle.gp_ring.specs.declared.wrote.Wrote.{Wrote}
use Rattle.gp_ring.specs.declared.wrote.Wrote.TheVariants.{Kept, Lost}

-- an unread record: its tag and its words
pub record Piece : Type 0 where
  pub tag : ℕ
  pub words : List ℕ

-- what a look saw: the end mark, the overflow word's count and change number, and the counts of `w`
pub record Seen : Type 0 where
  pub ended : Bool
  pub pending : ℕ
  pub change : ℕ
  pub words : ℕ
  pub tags : ℕ

-- what an act finds
pub data Found : Type 0 where
  Batch : (words tags : List ℕ) → Found
  Taken : (count time : ℕ) → Found
  Raced : (was found : ℕ) → Found
  Nothing : Found
  End : Found

pub record PlainRing : Type 0 where
  -- the header words of each record, the data words and the tag words of the ring
  pub hdrsize : ℕ
  pub len : ℕ
  pub tags : ℕ
  -- the records that weren't taken yet
  pub unread : List Piece
  -- how many offers the pending loss counts, 0 where none is pending, the overflow time, and the change number
  pub pending : ℕ
  pub since : ℕ
  pub change : ℕ
  -- the counts of `r` and of `w`
  pub read_words : ℕ
  pub read_tags : ℕ
  pub written_words : ℕ
  pub written_tags : ℕ
  pub ended : Bool
  -- what was looked at and not acted on yet
  pub seen : Option Seen
  -- what the last call found, if that was an act
  pub hand : Found

abbrev pub empty_ring : (hdrsize len tags : ℕ) → PlainRing
empty_ring hdrsize len tags =
    record {
      hdrsize = hdrsize;
      len = len;
      tags = tags;
      unread = [];
      pending = 0;
      since = 0;
      change = 0;
      read_words = 0;
      read_tags = 0;
      written_words = 0;
      written_tags = 0;
      ended = false;
      seen = None;
      hand = Nothing;
    }

-- ---- records

-- the record that words and a tag spell: with a header of zeros a loss, whose count is its stack
abbrev pub record_in : ℕ → ℕ → List ℕ → RingRecord
record_in hdrsize tag words =
    let header = take hdrsize (drop 2 words) in
    let stack = drop hdrsize (drop 2 words) in
    if all_zero header then Loss (slice_index stack 0) (slice_index words 1)
    else Sample (record { time = slice_index words 1; tag = tag; header = header; stack = stack })

abbrev pub record_of : ℕ → Piece → RingRecord
record_of hdrsize piece = record_in hdrsize piece.tag piece.words

-- the unread records, and the pending loss as a record
abbrev pub unread_records : PlainRing → List RingRecord
unread_records ring = map (record_of ring.hdrsize) ring.unread

abbrev pub pending_records : PlainRing → List RingRecord
pending_records ring = if ring.pending == 0 then [] else Loss ring.pending ring.since ∷ []

-- the words of an offer, and of the pending loss
abbrev pub piece_for : Offer → Piece
piece_for offer = record { tag = offer.tag; words = spelled offer.time offer.header offer.stack }

abbrev pub loss_piece : PlainRing → Piece
loss_piece ring = record { tag = 0; words = spelled ring.since (replicate ring.hdrsize 0) (ring.pending ∷ []) }

-- there is something to take: an unread record, or the pending loss
abbrev pub has_more : PlainRing → Bool
has_more ring = nat_lt 0 (length ring.unread) || nat_lt 0 ring.pending

-- what the last act found is forgotten
abbrev pub with_nothing : PlainRing → PlainRing
with_nothing ring = record ring { hand = Nothing }

-- ---- write

-- a record is emitted: its place rule raises the data count
abbrev pub emitted : PlainRing → Piece → PlainRing
emitted ring piece =
    record ring {
      unread = ring.unread ++ piece ∷ [];
      written_words = ring.written_words + raise_of (ring.written_words % ring.len) ring.len (length piece.words);
      written_tags = ring.written_tags + 1;
    }

-- the pending loss is taken
abbrev pub without_loss : PlainRing → PlainRing
without_loss ring = record ring { pending = 0; change = ring.change + 1 }

-- a first offer is lost, and one more
abbrev pub with_first_loss : PlainRing → ℕ → PlainRing
with_first_loss ring now = record ring { pending = 1; since = now; change = ring.change + 1 }

abbrev pub with_one_more : PlainRing → PlainRing
with_one_more ring = record ring { pending = ring.pending + 1 }

-- there is room for the offer, and for the pending loss and the offer
abbrev pub has_room : PlainRing → Offer → Bool
has_room ring offer =
    room_for_one ring.len ring.tags (ring.written_words - ring.read_words) (ring.written_tags - ring.read_tags)
    (ring.written_words % ring.len) (words_for ring.hdrsize offer)

abbrev pub has_room_behind_loss : PlainRing → Offer → Bool
has_room_behind_loss ring offer =
    room_for_two ring.len ring.tags (ring.written_words - ring.read_words) (ring.written_tags - ring.read_tags)
    (ring.written_words % ring.len) (loss_size ring.hdrsize) (words_for ring.hdrsize offer)

-- the record is written: by itself where no loss is pending, behind that loss where one is
abbrev pub is_kept : PlainRing → Offer → Bool
is_kept ring offer = if ring.pending == 0 then has_room ring offer else has_room_behind_loss ring offer

abbrev pub kept_in : PlainRing → Offer → PlainRing
kept_in ring offer =
    if ring.pending == 0 then emitted ring (piece_for offer)
    else emitted (emitted (without_loss ring) (loss_piece ring)) (piece_for offer)

abbrev pub lost_in : PlainRing → Offer → PlainRing
lost_in ring offer = if ring.pending == 0 then with_first_loss ring offer.time else with_one_more ring

abbrev pub written : PlainRing → Offer → PlainRing
written ring offer = with_nothing (if is_kept ring offer then kept_in ring offer else lost_in ring offer)

-- what the call answers
abbrev pub wrote : PlainRing → Offer → Wrote
wrote ring offer =
    if is_kept ring offer then Kept ring.pending
    else Lost (counts_word ring.read_words ring.read_tags) (overflow_word ring.change ring.pending)

-- ---- close, look, act

abbrev pub closed : PlainRing → PlainRing
closed ring = record ring { ended = true; hand = Nothing }

abbrev pub looked : PlainRing → PlainRing
looked ring =
    record ring {
      seen = Some (record {
        ended = ring.ended;
        pending = ring.pending;
        change = ring.change;
        words = ring.written_words;
        tags = ring.written_tags;
      });
      hand = Nothing;
    }

-- the records between the reader's place and the `w` that was seen
abbrev pub batch : PlainRing → Seen → List Piece
batch ring seen = take (seen.tags - ring.read_tags) ring.unread

abbrev pub is_ahead : PlainRing → Seen → Bool
is_ahead ring seen = nat_lt ring.read_tags seen.tags

-- the overflow word is the one that was seen
abbrev pub is_unchanged : PlainRing → Seen → Bool
is_unchanged ring seen = (ring.change == seen.change) && (ring.pending == seen.pending)

-- where no record is ahead: the loss, if it is still the one that was seen, or the end
abbrev pub found_behind : PlainRing → Seen → Found
found_behind ring seen =
    if nat_lt 0 seen.pending then
    (if is_unchanged ring seen then Taken ring.pending ring.since
    else Raced (overflow_word seen.change seen.pending) (overflow_word ring.change ring.pending))
    else if seen.ended then End
    else Nothing

abbrev pub found : PlainRing → Seen → Found
found ring seen =
    if is_ahead ring seen then Batch (flat_map (λ piece. piece.words) (batch ring seen)) (map (λ piece. piece.tag) (batch ring seen))
    else found_behind ring seen

-- an act forgets what was seen, and has in hand what it found
abbrev pub with_found : PlainRing → Found → PlainRing
with_found ring answer = record ring { seen = None; hand = answer }

-- the records that the act takes
abbrev pub records_found : PlainRing → Seen → List RingRecord
records_found ring seen =
    if is_ahead ring seen then map (record_of ring.hdrsize) (batch ring seen)
    else if nat_lt 0 seen.pending && is_unchanged ring seen then Loss ring.pending ring.since ∷ []
    else []

abbrev pub without_batch : PlainRing → Seen → PlainRing
without_batch ring seen =
    record ring { unread = drop (seen.tags - ring.read_tags) ring.unread; read_words = seen.words; read_tags = seen.tags }

abbrev pub acted_on : PlainRing → Seen → PlainRing
acted_on ring seen =
    with_found (
    if is_ahead ring seen then without_batch ring seen
    else if nat_lt 0 seen.pending && is_unchanged ring seen then without_loss ring
    else ring
    ) (found ring seen)

-- after an act on what was seen
abbrev pub act_after : PlainRing → Option Seen → PlainRing
act_after ring None = ring
act_after ring (Some seen) = acted_on ring seen

abbrev pub acted : PlainRing → PlainRing
acted ring = act_after ring ring.seen

-- the records that it takes
abbrev pub taken_after : PlainRing → Option Seen → List RingRecord
taken_after ring None = []
taken_after ring (Some seen) = records_found ring seen

abbrev pub records_taken : PlainRing → List RingRecord
records_taken ring = taken_after ring ring.seen
