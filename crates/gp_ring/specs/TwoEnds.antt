-- The two ends of a ring between two threads, as their callers see them: what the writer offered, and what the reader took.
use Rattle.std.specs.Prelude.{◌≡◌, ℕ, ◌+◌, ◌-◌, ◌*◌, ◌%◌, ◌<◌, ◌≤◌, ◌^◌, ◌==◌, Bool, true, false, if◌then◌else◌, nat_lt}
use Rattle.std.specs.Prelude.{List, [], ◌∷◌, ◌++◌, length, map}
use Rattle.std.specs.List.{flat_map, AllByRecursion}
use Rattle.atomic_table.specs.Seated.{TableId}
use Rattle.gp_layout.specs.Room.{room_for_one, room_for_two}
use Rattle.gp_layout.specs.Spelling.{loss_size}
use Rattle.gp_layout.specs.Words.{words_of, tags_of, count_of}
use Rattle.gp_ring.specs.Records.{Offer, RingRecord, Loss, Covers, IsOffer, words_for, words_for_most}
use Rattle.gp_ring.specs.PlainRing.{Found, Batch, Taken, Raced, Nothing, End, piece_for}
use Rattle.gp_ring.specs.Counts.{behind_all}
use Rattle.gp_ring.specs.Course.{loss_offer, records_for, IsWhole, StartsWithHead}
use Rattle.gp_ring.specs.declared.wrote.Wrote.{Wrote}
use Rattle.gp_ring.specs.declared.wrote.Wrote.TheVariants.{Kept, Lost}

-- which ring it is, the header words of each record, and its data words and tag words
pub record RingOf : Type 0 where
  pub table : TableId
  pub hdrsize : ℕ
  pub len : ℕ
  pub tags : ℕ

-- The writer: of which ring it is; all offers that were made, in order; the records that it wrote, a loss's too, which has a header
-- of zeros; the overflow time that it stored last. How often it loaded `r` and overflow and exchanged overflow, and what it found
-- last.
pub record WriterEnd : Type 0 where
  pub ring : RingOf
  pub offers : List Offer
  pub records : List Offer
  pub since : ℕ
  pub loads : ℕ
  pub read : ℕ
  pub overflow_loads : ℕ
  pub overflow : ℕ
  pub exchanges : ℕ
  pub found : ℕ

-- the writer that was closed: all offers, and whether the end mark is stored
pub record ClosedEnd : Type 0 where
  pub ring : RingOf
  pub offers : List Offer
  pub marked : Bool

-- The reader: of which ring it is; the records that it took, in order; its place, as the counts behind them. How often it loaded the
-- end mark, overflow, `w` and the overflow time and exchanged overflow, and what it found last. Whether a look was made since the
-- last act, and what that answered.
pub record ReaderEnd : Type 0 where
  pub ring : RingOf
  pub taken : List RingRecord
  pub read_words : ℕ
  pub read_tags : ℕ
  pub end_loads : ℕ
  pub end : ℕ
  pub overflow_loads : ℕ
  pub overflow : ℕ
  pub loads : ℕ
  pub written : ℕ
  pub time_loads : ℕ
  pub time : ℕ
  pub exchanges : ℕ
  pub found : ℕ
  pub looked : Bool
  pub hand : Found

abbrev pub first_writer : RingOf → WriterEnd
first_writer ring =
    record {
      ring = ring;
      offers = [];
      records = [];
      since = 0;
      loads = 0;
      read = 0;
      overflow_loads = 0;
      overflow = 0;
      exchanges = 0;
      found = 0;
    }

abbrev pub first_reader : RingOf → ReaderEnd
first_reader ring =
    record {
      ring = ring;
      taken = [];
      read_words = 0;
      read_tags = 0;
      end_loads = 0;
      end = 0;
      overflow_loads = 0;
      overflow = 0;
      loads = 0;
      written = 0;
      time_loads = 0;
      time = 0;
      exchanges = 0;
      found = 0;
      looked = false;
      hand = Nothing;
    }

-- ---- write

-- An offer may be made: fewer than 2^30 came before, and the words of all, this one's too, are twice over below 2^32.
pub record MayWrite (writer : WriterEnd) (offer : Offer) : Type 0 where
  pub offer_fits : IsOffer writer.ring.hdrsize writer.ring.len offer
  pub few : length writer.offers < 2 ^ 30
  pub words : 2 * words_for_most writer.ring.hdrsize (writer.offers ++ offer ∷ []) < 2 ^ 32

-- the data count of the writer's own `w`
abbrev pub written_words : WriterEnd → ℕ
written_words writer = behind_all writer.ring.len 0 writer.records

-- `r` and overflow were loaded
abbrev pub with_loads : WriterEnd → (read overflow : ℕ) → WriterEnd
with_loads writer read overflow =
    record writer {
      loads = writer.loads + 1;
      read = read;
      overflow_loads = writer.overflow_loads + 1;
      overflow = overflow;
    }

-- overflow, as it was loaded, had a loss
abbrev pub is_pending : WriterEnd → Bool
is_pending writer = nat_lt 0 (count_of writer.overflow)

-- and then it was exchanged, and found as it was loaded, or else the reader had taken that loss
abbrev pub tried_by : Bool → WriterEnd → ℕ → WriterEnd
tried_by false writer found = writer
tried_by true writer found = record writer { exchanges = writer.exchanges + 1; found = found }

abbrev pub tried : WriterEnd → ℕ → WriterEnd
tried writer found = tried_by (is_pending writer) writer found

abbrev pub has_won : WriterEnd → Bool
has_won writer = writer.found == writer.overflow

-- by the words that were loaded there is room for the offer, or for the pending loss and the offer
abbrev pub room_by : Bool → WriterEnd → Offer → Bool
room_by false writer offer =
    room_for_one writer.ring.len writer.ring.tags (written_words writer - words_of writer.read)
    (length writer.records - tags_of writer.read) (written_words writer % writer.ring.len) (words_for writer.ring.hdrsize offer)
room_by true writer offer =
    room_for_two writer.ring.len writer.ring.tags (written_words writer - words_of writer.read)
    (length writer.records - tags_of writer.read) (written_words writer % writer.ring.len) (loss_size writer.ring.hdrsize)
    (words_for writer.ring.hdrsize offer)

abbrev pub has_room : WriterEnd → Offer → Bool
has_room writer offer = room_by (is_pending writer) writer offer

-- what a write answers, by room, pending loss and exchange
abbrev pub wrote_by : (room pending won : Bool) → WriterEnd → Wrote
wrote_by true true true writer = Kept (count_of writer.overflow)
wrote_by true true false writer = Kept 0
wrote_by true false won writer = Kept 0
wrote_by false pending won writer = Lost writer.read writer.overflow

abbrev pub wrote : WriterEnd → Offer → Wrote
wrote writer offer = wrote_by (has_room writer offer) (is_pending writer) (has_won writer) writer

-- and what it leaves: the record is written, behind the loss if that was pending still; or else the offer is lost, as one more of the
-- pending loss if that was pending still, and as the first one of another if not
abbrev pub with_kept : WriterEnd → Offer → List Offer → WriterEnd
with_kept writer offer more = record writer { offers = writer.offers ++ offer ∷ []; records = writer.records ++ more }

abbrev pub with_lost : WriterEnd → Offer → ℕ → WriterEnd
with_lost writer offer since = record writer { offers = writer.offers ++ offer ∷ []; since = since }

abbrev pub written_by : (room pending won : Bool) → WriterEnd → Offer → WriterEnd
written_by true true true writer offer =
    with_kept writer offer (loss_offer writer.ring.hdrsize (count_of writer.overflow) writer.since ∷ offer ∷ [])
written_by true true false writer offer = with_kept writer offer (offer ∷ [])
written_by true false won writer offer = with_kept writer offer (offer ∷ [])
written_by false true true writer offer = with_lost writer offer writer.since
written_by false true false writer offer = with_lost writer offer offer.time
written_by false false won writer offer = with_lost writer offer offer.time

abbrev pub written : WriterEnd → Offer → WriterEnd
written writer offer = written_by (has_room writer offer) (is_pending writer) (has_won writer) writer offer

-- the writer with the words that a write loaded and found
abbrev pub with_found : (old new : WriterEnd) → WriterEnd
with_found old new = tried (with_loads old new.read new.overflow) new.found

-- ---- look and act

-- the end mark, overflow and `w` were loaded
abbrev pub Looks : ReaderEnd → ReaderEnd → Type 0
Looks old new =
    new
    ≡ record old {
      end_loads = old.end_loads + 1;
      end = new.end;
      overflow_loads = old.overflow_loads + 1;
      overflow = new.overflow;
      loads = old.loads + 1;
      written = new.written;
      looked = true;
    }

-- records lie between the reader's place and the `w` that was looked at; else a loss was looked at
abbrev pub is_ahead : ReaderEnd → Bool
is_ahead reader = nat_lt reader.read_tags (tags_of reader.written)

abbrev pub has_loss : ReaderEnd → Bool
has_loss reader = nat_lt 0 (count_of reader.overflow)

-- these records are taken, and their words and tags are in hand
abbrev pub with_batch : ReaderEnd → List Offer → ReaderEnd
with_batch reader records =
    record reader {
      taken = reader.taken ++ records_for reader.ring.hdrsize records;
      read_words = words_of reader.written;
      read_tags = tags_of reader.written;
      looked = false;
      hand = Batch (flat_map (λ offer. (piece_for offer).words) records) (map (λ offer. offer.tag) records);
    }

-- the overflow time was loaded, and overflow exchanged
abbrev pub with_exchange : ReaderEnd → (time found : ℕ) → ReaderEnd
with_exchange reader time found =
    record reader {
      time_loads = reader.time_loads + 1;
      time = time;
      exchanges = reader.exchanges + 1;
      found = found;
      looked = false;
    }

abbrev pub with_loss : ReaderEnd → ReaderEnd
with_loss reader =
    record reader {
      taken = reader.taken ++ Loss (count_of reader.overflow) reader.time ∷ [];
      hand = Taken (count_of reader.overflow) reader.time;
    }

abbrev pub with_race : ReaderEnd → ReaderEnd
with_race reader = record reader { hand = Raced reader.overflow reader.found }

abbrev pub with_none : ReaderEnd → ReaderEnd
with_none reader = record reader { looked = false; hand = if reader.end == 1 then End else Nothing }

-- what an act leaves, by what was looked at and what an exchange found
abbrev pub acted_by : (ahead loss won : Bool) → ReaderEnd → List Offer → (time found : ℕ) → ReaderEnd
acted_by true loss won reader records time found = with_batch reader records
acted_by false true true reader records time found = with_loss (with_exchange reader time found)
acted_by false true false reader records time found = with_race (with_exchange reader time found)
acted_by false false won reader records time found = with_none reader

abbrev pub acted : ReaderEnd → List Offer → (time found : ℕ) → ReaderEnd
acted reader records time found =
    acted_by (is_ahead reader) (has_loss reader) (found == reader.overflow) reader records time found

-- What an act does, if these records lie between the reader's place and the `w` that was looked at: whole ones, and as many as the
-- tag counts say. The end mark that was looked at is 0 or 1, so that what isn't the end was looked at before it was marked.
pub record Acts (old new : ReaderEnd) : Type 0 where
  pub records : List Offer
  pub whole : AllByRecursion (IsWhole old.ring.hdrsize) records
  pub counted : old.read_tags + length records ≡ tags_of old.written
  pub place : records ≡ [] → words_of old.written ≡ old.read_words
  pub mark : old.end ≤ 1
  pub after : new ≡ acted old records new.time new.found
  pub ring : new.ring ≡ old.ring
  pub loads : new.loads ≡ old.loads
  pub looked : new.looked ≡ false

-- a look and an act
pub record Reads (old new : ReaderEnd) : Type 0 where
  pub middle : ReaderEnd
  pub looks : Looks old middle
  pub acts : Acts middle new

-- ---- settle

-- the records that the reader took cover all offers, and begin with their head
pub record Settles (old new : ReaderEnd) (closed : ClosedEnd) : Type 0 where
  pub after : new ≡ record old { end_loads = old.end_loads + 1; end = 1; looked = false }
  pub covered : Covers new.taken closed.offers
  pub begins : StartsWithHead closed.ring.hdrsize closed.ring.len closed.ring.tags closed.offers new.taken
