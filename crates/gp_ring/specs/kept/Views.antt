-- What the seats of a ring know, and what each kind of step makes of it.
use Rattle.std.specs.Prelude.{◌≡◌, ℕ, ◌+◌, ◌-◌, ◌*◌, ◌%◌, ◌<◌, ◌≤◌, ◌^◌, ◌==◌, ◌&&◌, ◌||◌, Bool, true, false}
use Rattle.std.specs.Prelude.{List, [], ◌∷◌, ◌++◌, length, drop}
use Rattle.std.specs.List.{AllByRecursion}
use Rattle.atomic_table.specs.Table.{Me, Step}
use Rattle.gp_layout.specs.Words.{words_of, tags_of, count_of, change_of}
use Rattle.gp_ring.specs.Records.{Offer, Covers, fit_twice, words_for_all}
use Rattle.gp_ring.specs.PlainRing.{piece_for}
use Rattle.gp_ring.specs.Counts.{behind_all}
use Rattle.gp_ring.specs.Course.{loss_offer, records_for, IsWhole, StartsWithHead, IsBounded}
use Rattle.gp_ring.specs.kept.Traces.{from_count, all_laid, tags_from, first_word, mark_of, skip_before}
use Rattle.gp_ring.specs.declared.between.view.View.{View}
use Rattle.gp_ring.specs.declared.between.view.WriterView.{WriterView}
use Rattle.gp_ring.specs.declared.between.view.ReaderView.{ReaderView}

abbrev pub fresh_writer : WriterView
fresh_writer =
    record {
      offers = [];
      records = [];
      draft = [];
      next = 0;
      tag_draft = [];
      next_tag = 0;
      since = 0;
      present = 0;
      owed = 0;
      closed = false;
      loads = 0;
      read = 0;
      overflow_loads = 0;
      overflow = 0;
      exchanges = 0;
      found = 0;
    }

abbrev pub fresh_reader : ReaderView
fresh_reader =
    record {
      taken = [];
      pulled = [];
      ahead = [];
      due = [];
      due_tags = [];
      end_loads = 0;
      end = 0;
      overflow_loads = 0;
      overflow = 0;
      is_last = false;
      loads = 0;
      written = 0;
      has_seen = false;
      time_loads = 0;
      time = 0;
      is_timed = false;
      exchanges = 0;
      found = 0;
      is_over = false;
    }

-- what no call publishes
abbrev pub no_offer : Offer
no_offer = record { time = 0; tag = 0; header = []; stack = [] }

-- the first seat is both
abbrev pub first_view : (hdrsize len tags : ℕ) → View
first_view hdrsize len tags =
    record { hdrsize = hdrsize; len = len; tags = tags; writes = true; writer = fresh_writer; reads = true; reader = fresh_reader }

-- a seat that was joined
abbrev pub nobody : View
nobody = record { hdrsize = 0; len = 0; tags = 0; writes = false; writer = fresh_writer; reads = false; reader = fresh_reader }

-- what is the writer's, and what is the reader's
abbrev pub writer_of : View → View
writer_of v = record v { reads = false; reader = fresh_reader }

abbrev pub reader_of : View → View
reader_of v = record v { writes = false; writer = fresh_writer }

-- a reader that takes in the writer
abbrev pub with_writer : View → View → View
with_writer v w = record v { writes = w.writes; writer = w.writer }

-- ---- the writer and the ring's words

-- `r` was loaded
abbrev pub with_read : View → ℕ → View
with_read v r = record v { writer = record v.writer { loads = v.writer.loads + 1; read = r } }

-- words were stored behind those before
abbrev pub with_words : View → List ℕ → View
with_words v words =
    record v {
      writer = record v.writer { draft = v.writer.draft ++ from_count v.writer.next words; next = v.writer.next + length words };
    }

-- the mark was stored, and the words up to the end of the ring are passed over
abbrev pub with_mark : View → View
with_mark v =
    record v {
      writer = record v.writer {
        draft = v.writer.draft ++ (v.writer.next, 0) ∷ [];
        next = v.writer.next + (v.len - v.writer.next % v.len);
      };
    }

-- so many words are passed over, where there are any
abbrev pub passed_over : View → ℕ → View
passed_over v skip =
    record v { writer = record v.writer { draft = v.writer.draft ++ mark_of skip v.writer.next; next = v.writer.next + skip } }

-- a tag was stored
abbrev pub with_tag : View → ℕ → View
with_tag v tag =
    record v {
      writer = record v.writer {
        tag_draft = v.writer.tag_draft ++ (v.writer.next_tag, tag) ∷ [];
        next_tag = v.writer.next_tag + 1;
      };
    }

-- all that a record makes before `w`: mark, words and tag
abbrev pub with_draft : View → Offer → View
with_draft v offer =
    let skip = skip_before v.len v.writer.next offer in
    with_tag (with_words (passed_over v skip) (piece_for offer).words) offer.tag

-- `w` was stored: an offer's record lies in the ring
abbrev pub with_delivered : View → Offer → View
with_delivered v offer =
    record v {
      writer = record v.writer {
        offers = v.writer.offers ++ offer ∷ [];
        records = v.writer.records ++ offer ∷ [];
        draft = [];
        tag_draft = [];
      };
    }

-- or the record of the loss that the writer took
abbrev pub owed_of : View → Offer
owed_of v = loss_offer v.hdrsize v.writer.owed v.writer.since

abbrev pub with_paid : View → View
with_paid v =
    record v { writer = record v.writer { records = v.writer.records ++ owed_of v ∷ []; draft = []; tag_draft = []; owed = 0 } }

-- ---- the writer and the overflow word

-- overflow was loaded
abbrev pub with_overflow : View → ℕ → View
with_overflow v found =
    record v { writer = record v.writer { present = found; overflow_loads = v.writer.overflow_loads + 1; overflow = found } }

-- the overflow time was stored
abbrev pub with_since : View → ℕ → View
with_since v now = record v { writer = record v.writer { since = now } }

-- an offer is lost, and overflow is this word: it was stored, or came by an exchange
abbrev pub with_lost : View → Offer → ℕ → View
with_lost v offer word = record v { writer = record v.writer { offers = v.writer.offers ++ offer ∷ []; present = word } }

-- overflow was exchanged, or not
abbrev pub with_exchange : View → ℕ → View
with_exchange v found = record v { writer = record v.writer { exchanges = v.writer.exchanges + 1; found = found } }

-- it wasn't: the reader had taken the loss
abbrev pub with_raced : View → ℕ → View
with_raced v found = record v { writer = record v.writer { exchanges = v.writer.exchanges + 1; found = found; present = found } }

-- the writer took the loss, to write it into the ring
abbrev pub with_owed : View → ℕ → View
with_owed v word = record v { writer = record v.writer { present = word; owed = count_of v.writer.present } }

-- the end mark was stored
abbrev pub with_closed : View → View
with_closed v = record v { writer = record v.writer { closed = true } }

-- ---- the reader

-- the end mark was loaded
abbrev pub with_end : View → ℕ → View
with_end v found = record v { reader = record v.reader { end_loads = v.reader.end_loads + 1; end = found } }

-- overflow was loaded
abbrev pub with_pending : View → ℕ → View
with_pending v found =
    record v {
      reader = record v.reader {
        overflow_loads = v.reader.overflow_loads + 1;
        overflow = found;
        is_last = v.reader.end == 1;
        has_seen = false;
        is_timed = false;
      };
    }

abbrev pub is_none : List Offer → Bool
is_none [] = true
is_none (offer ∷ offers) = false

-- `w` was loaded, and showed these records ahead
abbrev pub with_ahead : View → ℕ → List Offer → View
with_ahead v w ahead =
    record v {
      reader = record v.reader {
        ahead = ahead;
        due = all_laid v.len (behind_all v.len 0 v.reader.pulled) ahead;
        due_tags = tags_from (length v.reader.pulled) ahead;
        loads = v.reader.loads + 1;
        written = w;
        has_seen = true;
        is_over = v.reader.is_over || (v.reader.is_last && (count_of v.reader.overflow == 0) && is_none ahead);
      };
    }

-- words and tags are due, and as many were loaded
abbrev pub with_due : View → List (ℕ × ℕ) → View
with_due v due = record v { reader = record v.reader { due = due } }

abbrev pub with_due_tags : View → List (ℕ × ℕ) → View
with_due_tags v due = record v { reader = record v.reader { due_tags = due } }

abbrev pub without_words : View → ℕ → View
without_words v n = with_due v (drop n v.reader.due)

abbrev pub without_tags : View → ℕ → View
without_tags v n = with_due_tags v (drop n v.reader.due_tags)

-- `r` was stored: the records that were ahead are taken
abbrev pub with_batch : View → View
with_batch v =
    record v {
      reader = record v.reader {
        taken = v.reader.taken ++ v.reader.ahead;
        pulled = v.reader.pulled ++ v.reader.ahead;
        ahead = [];
      };
    }

-- the overflow time was loaded
abbrev pub with_time : View → ℕ → View
with_time v found =
    record v { reader = record v.reader { time_loads = v.reader.time_loads + 1; time = found; is_timed = true } }

-- the loss that was looked at
abbrev pub loss_of : View → Offer
loss_of v = loss_offer v.hdrsize (count_of v.reader.overflow) v.reader.time

-- overflow was exchanged, and the loss is taken; or it wasn't
abbrev pub with_loss : View → ℕ → View
with_loss v found =
    record v {
      reader = record v.reader {
        taken = v.reader.taken ++ loss_of v ∷ [];
        is_last = false;
        exchanges = v.reader.exchanges + 1;
        found = found;
      };
    }

abbrev pub without_loss : View → ℕ → View
without_loss v found =
    record v { reader = record v.reader { is_last = false; exchanges = v.reader.exchanges + 1; found = found } }

-- ---- what steps tell

-- between the counts of `r` and the writer's own lies a round at most
pub record IsWithin (len tags r words tag_count : ℕ) : Type 0 where
  pub words_before : words_of r ≤ words
  pub words_within : words ≤ words_of r + len
  pub tags_before : tags_of r ≤ tag_count
  pub tags_within : tag_count ≤ tags_of r + tags

-- the overflow word that the writer knows, or what the reader left of it when it took the loss
abbrev pub IsLifted : (before now : ℕ) → Type 0
IsLifted before now = (0 < count_of before) × (count_of now ≡ 0) × (change_of now ≡ change_of before + 1)

-- the numbers of the overflow word that was found, and of what the writer offered and wrote; where a loss is pending, not all
-- offers fit twice over
pub record IsCounted (v : View) (found : ℕ) : Type 0 where
  pub bounded :
      IsBounded v.hdrsize v.writer.offers (behind_all v.len 0 v.writer.records) (length v.writer.records) (count_of found) v.writer.owed
      (change_of found)
  pub fits :
      fit_twice v.hdrsize v.len v.tags v.writer.offers ≡ true
      → (count_of found ≡ 0) × (behind_all v.len 0 v.writer.records ≤ 2 * words_for_all v.hdrsize v.writer.offers)

-- the counts of `w` are those behind the records that were taken and those ahead, which are a round at most, and whole; where
-- nothing can come any more, none is ahead
pub record IsAhead (v : View) (w : ℕ) (ahead : List Offer) : Type 0 where
  pub words : words_of w ≡ behind_all v.len 0 (v.reader.pulled ++ ahead)
  pub tags : tags_of w ≡ length (v.reader.pulled ++ ahead)
  pub words_within : words_of w ≤ behind_all v.len 0 v.reader.pulled + v.len
  pub tags_within : tags_of w ≤ length v.reader.pulled + v.tags
  pub whole : AllByRecursion (IsWhole v.hdrsize) ahead
  pub over : v.reader.is_over ≡ true → ahead ≡ []

-- at the end the records that were taken cover all offers, and begin with their head
pub record IsAll (v : View) : Type 0 where
  pub covered : Covers (records_for v.hdrsize v.reader.taken) v.writer.offers
  pub begins : StartsWithHead v.hdrsize v.len v.tags v.writer.offers (records_for v.hdrsize v.reader.taken)

module _ {S : Type 0} where
  abbrev pub loaded_read : Step S → Me S View → ℕ → Me S View → Type 0
  loaded_read s before r after =
      (after ≡ (with_read before.0 r, before.1))
      × IsWithin before.0.len before.0.tags r (behind_all before.0.len 0 before.0.writer.records) (length before.0.writer.records)

  abbrev pub stored_word : Step S → Me S View → ℕ → Me S View → Type 0
  stored_word s before word after = after ≡ (with_words before.0 (word ∷ []), before.1)

  abbrev pub stored_mark : Step S → Me S View → ℕ → Me S View → Type 0
  stored_mark s before word after = after ≡ (with_mark before.0, before.1)

  abbrev pub stored_tag : Step S → Me S View → ℕ → Me S View → Type 0
  stored_tag s before tag after = after ≡ (with_tag before.0 tag, before.1)

  abbrev pub stored_delivered : Offer → Step S → Me S View → ℕ → Me S View → Type 0
  stored_delivered offer s before w after = after ≡ (with_delivered before.0 offer, before.1)

  abbrev pub stored_paid : Step S → Me S View → ℕ → Me S View → Type 0
  stored_paid s before w after = after ≡ (with_paid before.0, before.1)

  abbrev pub loaded_overflow : Step S → Me S View → ℕ → Me S View → Type 0
  loaded_overflow s before found after =
      (after ≡ (with_overflow before.0 found, before.1)) × IsCounted before.0 found

  abbrev pub stored_since : Step S → Me S View → ℕ → Me S View → Type 0
  stored_since s before now after = after ≡ (with_since before.0 now, before.1)

  abbrev pub stored_lost : Offer → Step S → Me S View → ℕ → Me S View → Type 0
  stored_lost offer s before word after = after ≡ (with_lost before.0 offer word, before.1)

  abbrev pub exchanged_flush : Step S → Me S View → ℕ → Me S View → Type 0
  exchanged_flush s before found after =
      (found ≡ s.first → after ≡ (with_exchange (with_owed before.0 s.second) found, before.1))
      × ((found ≡ s.first → ⊥) → (after ≡ (with_raced before.0 found, before.1)) × IsLifted before.0.writer.present found)

  abbrev pub exchanged_bump : Offer → Step S → Me S View → ℕ → Me S View → Type 0
  exchanged_bump offer s before found after =
      (found ≡ s.first → after ≡ (with_exchange (with_lost before.0 offer s.second) found, before.1))
      × ((found ≡ s.first → ⊥) → (after ≡ (with_raced before.0 found, before.1)) × IsLifted before.0.writer.present found)

  abbrev pub stored_end : Step S → Me S View → ℕ → Me S View → Type 0
  stored_end s before word after = after ≡ (with_closed before.0, before.1)

  abbrev pub loaded_end : Step S → Me S View → ℕ → Me S View → Type 0
  loaded_end s before found after =
      (after ≡ (with_end before.0 found, before.1))
      × (found ≤ 1)
      × (before.0.reader.is_over ≡ true → found ≡ 1)
      × (before.0.writes ≡ true → before.0.reader.is_over ≡ true → IsAll before.0)

  abbrev pub loaded_pending : Step S → Me S View → ℕ → Me S View → Type 0
  loaded_pending s before found after =
      (after ≡ (with_pending before.0 found, before.1))
      × (change_of found ≤ 2 ^ 31)
      × (before.0.reader.is_over ≡ true → count_of found ≡ 0)

  abbrev pub loaded_written : Step S → Me S View → ℕ → Me S View → Type 0
  loaded_written s before w after =
      (after ≡ (with_ahead before.0 w after.0.reader.ahead, before.1)) × IsAhead before.0 w after.0.reader.ahead

  abbrev pub loaded_word : Step S → Me S View → ℕ → Me S View → Type 0
  loaded_word s before word after = (after ≡ (without_words before.0 1, before.1)) × (word ≡ first_word before.0.reader.due)

  abbrev pub loaded_tag : Step S → Me S View → ℕ → Me S View → Type 0
  loaded_tag s before tag after =
      (after ≡ (without_tags before.0 1, before.1)) × (tag ≡ first_word before.0.reader.due_tags)

  abbrev pub stored_read : Step S → Me S View → ℕ → Me S View → Type 0
  stored_read s before r after = after ≡ (with_batch before.0, before.1)

  abbrev pub loaded_since : Step S → Me S View → ℕ → Me S View → Type 0
  loaded_since s before found after = after ≡ (with_time before.0 found, before.1)

  abbrev pub exchanged_loss : Step S → Me S View → ℕ → Me S View → Type 0
  exchanged_loss s before found after =
      (found ≡ s.first → after ≡ (with_loss before.0 found, before.1))
      × ((found ≡ s.first → ⊥) → after ≡ (without_loss before.0 found, before.1))
