-- The two ends of a ring as they are kept: what the fields stand for, and what holds of them.
use Rattle.std.specs.Prelude.{◌≡◌, ℕ, ◌+◌, ◌<◌, ◌≤◌, ◌^◌, Bool, true, false, List, [], length, replicate}
use Rattle.atomic_table.specs.Seated.{TableId}
use Rattle.atomic_table.specs.Table.{Me}
use Rattle.gp_layout.specs.Words.{words_of, tags_of, count_of, change_of}
use Rattle.gp_layout.specs.Spelling.{loss_size}
use Rattle.gp_ring.specs.PlainRing as plain
use Rattle.gp_ring.specs.PlainRing.{Found, piece_for}
use Rattle.gp_ring.specs.Counts.{behind_all}
use Rattle.gp_ring.specs.Course.{records_for}
use Rattle.gp_ring.specs.Records.{Offer}
use Rattle.gp_ring.specs.TwoEnds.{RingOf, WriterEnd, ClosedEnd, ReaderEnd, MayWrite}
use Rattle.gp_ring.specs.kept.Traces.{all_laid, tags_from}
use Rattle.gp_ring.specs.kept.Views.{IsWithin, IsCounted, IsAhead}
use Rattle.gp_ring.specs.declared.between.view.View.{View}
use Rattle.gp_ring.specs.declared.between.steps.Sizes.{Sizes}
use Rattle.gp_ring.specs.declared.between.writing.Pen.{Pen}
use Rattle.gp_ring.specs.declared.between.writing.Loaded.{Loaded}
use Rattle.gp_ring.specs.declared.between.held.Held.{Held}
use Rattle.gp_ring.specs.declared.between.held.Held.TheVariants.{Batch, Lost, Raced, Nothing, End}

abbrev pub ring_of : TableId → View → RingOf
ring_of table v = record { table = table; hdrsize = v.hdrsize; len = v.len; tags = v.tags }

abbrev pub writer_end : TableId → View → WriterEnd
writer_end table v =
    record {
      ring = ring_of table v;
      offers = v.writer.offers;
      records = v.writer.records;
      since = v.writer.since;
      loads = v.writer.loads;
      read = v.writer.read;
      overflow_loads = v.writer.overflow_loads;
      overflow = v.writer.overflow;
      exchanges = v.writer.exchanges;
      found = v.writer.found;
    }

abbrev pub closed_end : TableId → View → ClosedEnd
closed_end table v = record { ring = ring_of table v; offers = v.writer.offers; marked = v.writer.closed }

-- what is held as the last answer
abbrev pub found_of : (words tag_words : List ℕ) → Held → Found
found_of words tag_words Batch = plain.Batch words tag_words
found_of words tag_words (Lost count time) = plain.Taken count time
found_of words tag_words (Raced was found) = plain.Raced was found
found_of words tag_words Nothing = plain.Nothing
found_of words tag_words End = plain.End

abbrev pub reader_end : TableId → View → Bool → Found → ReaderEnd
reader_end table v looked hand =
    record {
      ring = ring_of table v;
      taken = records_for v.hdrsize v.reader.taken;
      read_words = behind_all v.len 0 v.reader.pulled;
      read_tags = length v.reader.pulled;
      end_loads = v.reader.end_loads;
      end = v.reader.end;
      overflow_loads = v.reader.overflow_loads;
      overflow = v.reader.overflow;
      loads = v.reader.loads;
      written = v.reader.written;
      time_loads = v.reader.time_loads;
      time = v.reader.time;
      exchanges = v.reader.exchanges;
      found = v.reader.found;
      looked = looked;
      hand = hand;
    }

-- a seat at a table of these sizes
pub record IsAt (table seat : TableId) (hdrsize len tags : ℕ) (sizes : Sizes) : Type 0 where
  pub seat_is : seat ≡ table
  pub size : table.words ≡ 5 + (len + tags)
  pub hdrsize_is : sizes.hdrsize ≡ hdrsize
  pub len_is : sizes.len ≡ len
  pub tags_is : sizes.tags ≡ tags
  pub header_least : 1 ≤ hdrsize
  pub header_most : hdrsize ≤ 64
  pub words_least : loss_size hdrsize ≤ len
  pub some_tags : 0 < tags
  pub words_most : len ≤ 2 ^ 29
  pub tags_most : tags ≤ 2 ^ 29

-- the writer has stored nothing behind the records that it wrote, and its `w` has their counts
pub record IsReady (v : View) (w since : ℕ) : Type 0 where
  pub draft : v.writer.draft ≡ []
  pub tag_draft : v.writer.tag_draft ≡ []
  pub next : v.writer.next ≡ behind_all v.len 0 v.writer.records
  pub next_tag : v.writer.next_tag ≡ length v.writer.records
  pub written_words : words_of w ≡ behind_all v.len 0 v.writer.records
  pub written_tags : tags_of w ≡ length v.writer.records
  pub none_owed : v.writer.owed ≡ 0
  pub is_open : v.writer.closed ≡ false
  pub since_is : v.writer.since ≡ since

-- `r` and overflow were loaded
pub record IsLoaded (v : View) (r overflow : ℕ) : Type 0 where
  pub read : v.writer.read ≡ r
  pub overflow_is : v.writer.overflow ≡ overflow
  pub present : v.writer.present ≡ overflow
  pub within : IsWithin v.len v.tags r (behind_all v.len 0 v.writer.records) (length v.writer.records)
  pub counted : IsCounted v overflow

pub record IsWriting (table seat : TableId) (me : Me Unit View) (sizes : Sizes) (w since : ℕ) (zeros : List ℕ) : Type 0 where
  pub seated : IsAt table seat me.0.hdrsize me.0.len me.0.tags sizes
  pub writes : me.0.writes ≡ true
  pub alone : me.1 ≡ []
  pub ready : IsReady me.0 w since
  pub header_zeros : zeros ≡ replicate me.0.hdrsize 0

-- an offer may be made, and `r` and overflow were loaded for it
pub record IsDeciding (table seat : TableId) (me : Me Unit View) (sizes : Sizes) (pen : Pen) (loaded : Loaded) (zeros : List ℕ)
    (offer : Offer) : Type 0 where
  pub writing : IsWriting table seat me sizes pen.w pen.since zeros
  pub words_loaded : IsLoaded me.0 loaded.r loaded.overflow
  pub may : MayWrite (writer_end table me.0) offer

-- the writer's seat, once it stored the end mark
pub record IsDone (table seat : TableId) (me : Me Unit View) : Type 0 where
  pub seat_is : seat ≡ table
  pub writes : me.0.writes ≡ true
  pub closed : me.0.writer.closed ≡ true
  pub alone : me.1 ≡ []

-- the reader's `r` has the counts behind the records that were taken
pub record IsReading (table seat : TableId) (me : Me Unit View) (sizes : Sizes) (r : ℕ) : Type 0 where
  pub seated : IsAt table seat me.0.hdrsize me.0.len me.0.tags sizes
  pub reads : me.0.reads ≡ true
  pub read_words : words_of r ≡ behind_all me.0.len 0 me.0.reader.pulled
  pub read_tags : tags_of r ≡ length me.0.reader.pulled

-- the reader knows what lies before the `w` that it looked at, and has yet to load all of it
pub record HasSeen (v : View) (end overflow w : ℕ) : Type 0 where
  pub end_is : v.reader.end ≡ end
  pub end_most : end ≤ 1
  pub overflow_is : v.reader.overflow ≡ overflow
  pub written_is : v.reader.written ≡ w
  pub has_seen : v.reader.has_seen ≡ true
  pub change : change_of overflow ≤ 2 ^ 31
  pub seen : IsAhead v w v.reader.ahead
  pub due : v.reader.due ≡ all_laid v.len (behind_all v.len 0 v.reader.pulled) v.reader.ahead
  pub due_tags : v.reader.due_tags ≡ tags_from (length v.reader.pulled) v.reader.ahead
  -- without a record and a loss, behind an end mark, nothing can come any more
  pub over : end ≡ 1 → count_of overflow ≡ 0 → v.reader.ahead ≡ [] → v.reader.is_over ≡ true

-- after an end nothing can come any more
abbrev pub IsOverAt : View → Held → Type 0
IsOverAt v End = v.reader.is_over ≡ true
IsOverAt v _ = Unit {0}
