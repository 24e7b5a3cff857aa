-- The rule of a ring between two threads: what holds of its shared words and of what its two seats know, between any two steps of
-- either.
use Rattle.std.specs.Prelude.{◌≡◌, ◌⊎◌, ℕ, ◌+◌, ◌<◌, ◌≤◌, true, if◌then◌else◌, List, [], ◌++◌, length, slice_index}
use mathlib.Core.Option.{some}
use lib.ListN.{get_elem?}
use Rattle.atomic_table.specs.Table.{State}
use Rattle.gp_layout.specs.Words.{words_of, tags_of, count_of, change_of}
use Rattle.gp_ring.specs.Records.{Offer}
use Rattle.gp_ring.specs.Counts.{behind_all}
use Rattle.gp_ring.specs.Course.{Course, kept_of, words_kept, IsSound}
use Rattle.gp_ring.specs.kept.Traces.{Stands, all_laid, tags_from}
use Rattle.gp_ring.specs.kept.Views.{IsLifted}
use Rattle.gp_ring.specs.declared.between.view.View.{View}
use Rattle.gp_ring.specs.declared.between.view.WriterView.{WriterView}
use Rattle.gp_ring.specs.declared.between.view.ReaderView.{ReaderView}

-- what the writer stored behind the records: words and tags, each with its count, and the counts behind those
pub record Desk : Type 0 where
  pub draft : List (ℕ × ℕ)
  pub next : ℕ
  pub tag_draft : List (ℕ × ℕ)
  pub next_tag : ℕ

-- what was done so far: the course, the writer's desk, the overflow word, and the seats of the writer and of the reader
pub record Past : Type 0 where
  pub course : Course
  pub desk : Desk
  pub present : ℕ
  pub writer : ℕ
  pub reader : ℕ

-- the data count behind the records that were taken
abbrev pub words_pulled : Course → ℕ
words_pulled course = behind_all course.len 0 course.pulled

-- The counts of `r` are those behind the records taken, those of `w` those behind the unread ones, flags left aside; and overflow,
-- its time and the end mark are the course's.
pub record AreCounts (r w overflow since end : ℕ) (course : Course) (present : ℕ) : Type 0 where
  pub read_words : words_of r ≡ words_pulled course
  pub read_tags : tags_of r ≡ length course.pulled
  pub written_words : words_of w ≡ words_kept course
  pub written_tags : tags_of w ≡ length (kept_of course)
  pub present_is : overflow ≡ present
  pub since_is : since ≡ course.since
  pub end_is : end ≡ (if course.ended then 1 else 0)

-- These records, and the draft behind them, stand in the ring, in one round.
pub record AreStanding (words : List ℕ) (len tags : ℕ) (pulled unread : List Offer) (desk : Desk) : Type 0 where
  pub words_stand :
      Stands words 5 len (behind_all len 0 pulled) desk.next (all_laid len 0 (pulled ++ unread) ++ desk.draft)
  pub next_least : behind_all len 0 (pulled ++ unread) ≤ desk.next
  pub next_most : desk.next ≤ behind_all len 0 pulled + len
  pub tags_stand :
      Stands words (5 + len) tags (length pulled) desk.next_tag (tags_from 0 (pulled ++ unread) ++ desk.tag_draft)
  pub next_tag_least : length (pulled ++ unread) ≤ desk.next_tag
  pub next_tag_most : desk.next_tag ≤ length pulled + tags

-- The words are `r`, `w`, overflow, the overflow time, the end mark, the data words and the tags.
pub record AreWords (words : List ℕ) (course : Course) (desk : Desk) (present : ℕ) : Type 0 where
  pub some_words : 0 < course.len
  pub some_tags : 0 < course.tags
  pub size : length words ≡ 5 + (course.len + course.tags)
  pub counts :
      AreCounts (slice_index words 0) (slice_index words 1) (slice_index words 2) (slice_index words 3) (slice_index words 4) course
      present
  pub standing : AreStanding words course.len course.tags course.pulled course.unread desk

-- the writer is in no emission, and no loss is on the way into the ring
pub record IsQuiet (owed : ℕ) (desk : Desk) : Type 0 where
  pub none_owed : owed ≡ 0
  pub draft : desk.draft ≡ []
  pub tag_draft : desk.tag_draft ≡ []

-- The course is sound, and the overflow word has its numbers. While a loss is pending, and once the end mark is stored, the writer
-- is in no emission.
pub record AreNumbers (course : Course) (desk : Desk) (present : ℕ) : Type 0 where
  pub sound : IsSound course
  pub pending : count_of present ≡ course.pending
  pub change : change_of present ≡ course.change
  pub quiet : 0 < course.pending → IsQuiet course.owed desk
  pub ended : course.ended ≡ true → IsQuiet course.owed desk

-- no more than another overflow word, by change number and then by count
pub record IsEarlier (before now : ℕ) : Type 0 where
  pub change : change_of before ≤ change_of now
  pub count : change_of before ≡ change_of now → count_of before ≤ count_of now

-- The writer knows what was offered and written and what it stored; the `r` that it loaded last is no more than the present one;
-- and overflow is as it knows it, unless the reader took its loss since, and no earlier than any that it found.
pub record IsWriterIn (course : Course) (desk : Desk) (present : ℕ) (writer : WriterView) : Type 0 where
  pub offers : writer.offers ≡ course.offers
  pub records : writer.records ≡ kept_of course
  pub draft : writer.draft ≡ desk.draft
  pub next : writer.next ≡ desk.next
  pub tag_draft : writer.tag_draft ≡ desk.tag_draft
  pub next_tag : writer.next_tag ≡ desk.next_tag
  pub since : writer.since ≡ course.since
  pub owed : writer.owed ≡ course.owed
  pub closed : writer.closed ≡ course.ended
  pub present_is : (present ≡ writer.present) ⊎ IsLifted writer.present present
  pub earlier : IsEarlier writer.overflow present × IsEarlier writer.found present
  pub read_words : words_of writer.read ≤ words_pulled course
  pub read_tags : tags_of writer.read ≤ length course.pulled

-- the overflow word with a loss, as it was looked at, still stands
pub record IsStanding (present overflow : ℕ) : Type 0 where
  pub some : 0 < count_of overflow
  pub same : present ≡ overflow

-- The reader knows what was taken, the first ones of the unread records, and an end of their words and of their tags.
-- While the overflow word with a loss stands as it was looked at, `w` and the overflow time that were loaded behind it do so too.
-- Where an end mark was found nothing comes: overflow that was loaded behind it, and `w` behind that, stay as they are.
pub record IsReaderIn (course : Course) (present : ℕ) (reader : ReaderView) : Type 0 where
  pub taken : reader.taken ≡ course.taken
  pub pulled : reader.pulled ≡ course.pulled
  pub ahead : (rest : List Offer) × (reader.ahead ++ rest ≡ course.unread)
  pub due : (front : List (ℕ × ℕ)) × (front ++ reader.due ≡ all_laid course.len (words_pulled course) reader.ahead)
  pub due_tags : (front : List (ℕ × ℕ)) × (front ++ reader.due_tags ≡ tags_from (length course.pulled) reader.ahead)
  pub earlier : IsEarlier reader.overflow present
  pub found_earlier : IsEarlier reader.found present
  pub seen : IsStanding present reader.overflow → reader.has_seen ≡ true → reader.ahead ≡ course.unread
  pub timed : IsStanding present reader.overflow → reader.is_timed ≡ true → reader.time ≡ course.since
  pub end_found : reader.end ≡ 1 → course.ended ≡ true
  pub last : reader.is_last ≡ true → (course.ended ≡ true) × (present ≡ reader.overflow)
  pub last_seen : reader.is_last ≡ true → reader.has_seen ≡ true → reader.ahead ≡ course.unread
  pub over : reader.is_over ≡ true → (course.ended ≡ true) × (course.pending ≡ 0) × (course.unread ≡ [])

-- a view is of these sizes
abbrev pub IsSizedAs : Course → View → Type 0
IsSizedAs course v = (v.hdrsize ≡ course.hdrsize) × (v.len ≡ course.len) × (v.tags ≡ course.tags)

-- and what it tells as a writer and as a reader is so
pub record Fits (past : Past) (seat : ℕ) (v : View) : Type 0 where
  pub writer :
      v.writes ≡ true
      → (seat ≡ past.writer) × IsSizedAs past.course v × IsWriterIn past.course past.desk past.present v.writer
  pub reader : v.reads ≡ true → (seat ≡ past.reader) × IsSizedAs past.course v × IsReaderIn past.course past.present v.reader

abbrev pub AllFit : Past → List View → Type 0
AllFit past views = (seat : ℕ) (v : View) → get_elem? views seat ≡ some v → Fits past seat v

-- there is a past that the words and all views show
abbrev pub IsRing : {S : Type 0} → State S View → Type 0
IsRing s =
    (past : Past)
    × AreWords s.words past.course past.desk past.present
    × AreNumbers past.course past.desk past.present
    × AllFit past s.views
