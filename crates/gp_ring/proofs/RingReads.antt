-- Each kind of step of the reader keeps the rule of a ring, and so do the cuts of seats.
use Rattle.std.proofs.Common.{◌≡◌, ◌≢◌, ◌⊎◌, ℕ, zero, suc, ◌+◌, ◌*◌, ◌<◌, ◌≤◌, ◌^◌, Bool, ◌&&◌, ◌||◌, List, [], ◌∷◌, ◌++◌, length, drop, true, false, refl, ap, sym, subst, ◌∙◌, inl, inr, ⊎_elim, append-nil, length-append, arith}
use Rattle.std.specs.Prelude.{slice_set, slice_index, replicate, ◌==◌, if◌then◌else◌}
use Rattle.std.specs.List.{AllByRecursion}
use mathlib.Core.Option.{none, some, some-ne-none, some-injective}
use lib.ListN.{get_elem?}
use prog.Atomic.{either}
use Rattle.std.proofs.lemmas.List.{get_or-replicate, length-replicate, nil_from_length}
use Rattle.std.proofs.lemmas.Bool.{and_parts}
use Rattle.std.proofs.lemmas.Bool.Decides.{nat_tests}
use Rattle.atomic_table.specs.Table.{Step, Me, Allows, Splits, Joins, State, step, stepped, opening}
use Rattle.atomic_table.specs.Table.Act.{keeps}
use Rattle.atomic_table.proofs.Lists.{at_set}
use Rattle.gp_layout.specs.Words.{words_of, tags_of, count_of, change_of}
use Rattle.gp_ring.specs.Records.{Offer, RingRecord, Covers}
use Rattle.gp_ring.specs.Counts.{behind_all}
use Rattle.gp_ring.specs.Course.{Course, first_course, kept_of, loss_offer, records_for, IsWhole, StartsWithHead, with_batch as batch_taken, lifted}
use Rattle.gp_ring.specs.kept.Traces.{all_laid, tags_from, Stands, first_word, IsDueAt}
use Rattle.gp_ring.specs.kept.Views.{first_view, nobody, writer_of, reader_of, with_writer, with_end, with_pending, is_none, with_ahead, without_words, without_tags, with_batch, with_time, loss_of, with_loss, without_loss}
use Rattle.gp_ring.specs.kept.Views.{IsAhead, IsAll, loaded_end, loaded_pending, loaded_written, loaded_word, loaded_tag, stored_read, loaded_since, exchanged_loss}
use Rattle.gp_ring.specs.kept.RingRule.{Desk, Past, AreWords, AreNumbers, IsWriterIn, IsReaderIn, IsStanding, IsSizedAs, Fits, AllFit, IsRing, words_pulled}
use Rattle.gp_ring.specs.declared.between.view.View.{View}
use Rattle.gp_ring.specs.declared.between.view.ReaderView.{ReaderView}
use Rattle.gp_ring.proofs.Tracing.{AreFrom, laid-append, tags_from-append, from-right, from-laid, from-tags, stands-left, stands-right, due-word, shorter}
use Rattle.gp_ring.proofs.CourseLaws.{first-sound, batch-sound, lifted-sound, none-all}
use Rattle.gp_ring.proofs.RingWords.{store-read, store-present}
use Rattle.gp_ring.proofs.RingViews.{off, at_end, all_set, no_writer, no_reader, reader_goes, writer-batch, writer-lifted, none_left, earlier_self}
use Rattle.gp_ring.proofs.RingSteps.{Goes, same_words, won_is, raced_is, same_or}

-- all views, when the reader knows more, and nothing else changed
reads_on : (past : Past) (views : List View) (seat : ℕ) (v : View) (reader : ReaderView) → AllFit past views → get_elem? views seat ≡ some v → v.reads ≡ true → IsReaderIn past.course past.present reader
    → AllFit past (slice_set views seat (record v { reader = reader }))
reads_on past views seat v reader fit at reads new = reader_goes past past.course past.present views seat v reader (refl, refl, refl) (λ w g. g) fit at reads new

-- ---- the end mark is loaded

ended_is : (b : Bool) (k : ℕ) → k ≡ (if b then 1 else 0) → k ≡ 1 → b ≡ true
ended_is true k e f = refl
ended_is false k e f = absurd (omega arith)

is_ended : (b : Bool) (k : ℕ) → k ≡ (if b then 1 else 0) → b ≡ true → k ≡ 1
is_ended b k e f = e ∙ ap (λ (c : Bool). if c then 1 else 0) f

all_is : (course : Course) (desk : Desk) (present : ℕ) (v : View) → AreNumbers course desk present → IsSizedAs course v → IsWriterIn course desk present v.writer → IsReaderIn course present v.reader → v.reader.is_over ≡ true → IsAll v
all_is course desk present v n z f g over =
    let o = g.over over in
    let q = n.ended o.0 in
    let same : records_for course.hdrsize (course.taken ++ course.unread) ≡ records_for v.hdrsize v.reader.taken =
    ap (λ (xs : List Offer). records_for course.hdrsize (course.taken ++ xs)) o.2 ∙ ap (records_for course.hdrsize) (append-nil course.taken)
    ∙ (λ i. records_for (sym z.0 i) (sym g.taken i)) in
    record {
      covered = subst (λ (x : List RingRecord × List Offer). Covers x.0 x.1) (λ i. ((none-all course o.1 q.none_owed ∙ same) i, sym f.offers i)) n.sound.covered;
      begins = subst (λ (x : ℕ × ℕ × ℕ × List Offer × List RingRecord). StartsWithHead x.0 x.1 x.2 x.3 x.4) (λ i. (sym z.0 i, sym z.1 i, sym z.2 i, sym f.offers i, same i)) n.sound.begins;
    }

end_most : (b : Bool) (k : ℕ) → k ≡ (if b then 1 else 0) → k ≤ 1
end_most true k e = omega arith
end_most false k e = omega arith

pub loads_end : {S : Type 0} (slots seat : ℕ) (me : Me S View) (st : Step S) → me.0.reads ≡ true → Allows IsRing slots seat me 4 (λ x. x) (loaded_end st me)
loads_end slots seat me st reads s h count at bits =
    let fits = h.3 seat me.0 at in
    let f = fits.reader reads in
    let new : IsReaderIn h.0.course h.0.present (record me.0.reader { end_loads = me.0.reader.end_loads + 1; end = slice_index s.words 4 }) = record {
      taken = f.2.taken;
      pulled = f.2.pulled;
      ahead = f.2.ahead;
      due = f.2.due;
      due_tags = f.2.due_tags;
      earlier = f.2.earlier;
      found_earlier = f.2.found_earlier;
      seen = f.2.seen;
      timed = f.2.timed;
      end_found = λ e. ended_is h.0.course.ended (slice_index s.words 4) h.1.counts.end_is e;
      last = f.2.last;
      last_seen = f.2.last_seen;
      over = f.2.over;
    } in (
      with_end me.0 (slice_index s.words 4),
      keeps,
      tt,
      (h.0, same_words 4 s.words h.0 h.1, h.2, reads_on h.0 s.views seat me.0 (record me.0.reader { end_loads = me.0.reader.end_loads + 1; end = slice_index s.words 4 }) h.3 at reads new),
      (
        refl,
        end_most h.0.course.ended (slice_index s.words 4) h.1.counts.end_is,
        (λ e. is_ended h.0.course.ended (slice_index s.words 4) h.1.counts.end_is (f.2.over e).0),
        (λ w e. (let g = fits.writer w in all_is h.0.course h.0.desk h.0.present me.0 h.2 f.1 g.2 f.2 e)),
      ),
    )

-- ---- overflow is loaded

is_one : (k : ℕ) → (k == 1) ≡ true → k ≡ 1
is_one k e = grind (arith, nat_tests)

is_zero : (k : ℕ) → (k == 0) ≡ true → k ≡ 0
is_zero k e = grind (arith, nat_tests)

pub loads_pending : {S : Type 0} (slots seat : ℕ) (me : Me S View) (st : Step S) → me.0.reads ≡ true → Allows IsRing slots seat me 2 (λ x. x) (loaded_pending st me)
loads_pending slots seat me st reads s h count at bits =
    let f = (h.3 seat me.0 at).reader reads in
    let found = h.1.counts.present_is in
    let new : IsReaderIn h.0.course h.0.present (with_pending me.0 (slice_index s.words 2)).reader = record {
      taken = f.2.taken;
      pulled = f.2.pulled;
      ahead = f.2.ahead;
      due = f.2.due;
      due_tags = f.2.due_tags;
      earlier = earlier_self (slice_index s.words 2) h.0.present found;
      found_earlier = f.2.found_earlier;
      seen = λ _ e. absurd (off e);
      timed = λ _ e. absurd (off e);
      end_found = f.2.end_found;
      last = λ e. (f.2.end_found (is_one me.0.reader.end e), sym found);
      last_seen = λ _ e. absurd (off e);
      over = f.2.over;
    } in
    let few : length h.0.course.offers ≤ 2 ^ 30 = h.2.sound.bounded.few in
    let most : h.0.course.change ≤ 2 * length h.0.course.offers = h.2.sound.bounded.change_most in
    let is : change_of (slice_index s.words 2) ≡ h.0.course.change = ap change_of found ∙ h.2.change in (
      with_pending me.0 (slice_index s.words 2),
      keeps,
      tt,
      (h.0, same_words 2 s.words h.0 h.1, h.2, reads_on h.0 s.views seat me.0 (with_pending me.0 (slice_index s.words 2)).reader h.3 at reads new),
      (refl, omega arith, (λ e. ap count_of found ∙ h.2.pending ∙ (f.2.over e).1)),
    )

-- ---- `w` is loaded

or_cases : (a b : Bool) → (a || b) ≡ true → (a ≡ true) ⊎ (b ≡ true)
or_cases true b e = inl refl
or_cases false b e = inr e

none_is : (os : List Offer) → is_none os ≡ true → os ≡ []
none_is [] e = refl
none_is (o ∷ os) e = absurd (off e)

over_now : (course : Course) (desk : Desk) (present : ℕ) (r : ReaderView) → AreNumbers course desk present → IsReaderIn course present r
    → (r.is_over || (r.is_last && (count_of r.overflow == 0) && is_none course.unread)) ≡ true → (course.ended ≡ true) × (course.pending ≡ 0) × (course.unread ≡ [])
over_now course desk present r n f e = ⊎_elim
    (λ (o : r.is_over ≡ true). f.over o)
    (λ (l : (r.is_last && (count_of r.overflow == 0) && is_none course.unread) ≡ true).
    let p = and_parts (r.is_last && (count_of r.overflow == 0)) (is_none course.unread) l in
    let q = and_parts r.is_last (count_of r.overflow == 0) p.0 in
    let k = f.last q.0 in
    (k.0, sym n.pending ∙ ap count_of k.1 ∙ is_zero (count_of r.overflow) q.1, none_is course.unread p.1))
    (or_cases r.is_over (r.is_last && (count_of r.overflow == 0) && is_none course.unread) e)

pub loads_written : {S : Type 0} (slots seat : ℕ) (me : Me S View) (st : Step S) → me.0.reads ≡ true → Allows IsRing slots seat me 1 (λ x. x) (loaded_written st me)
loads_written slots seat me st reads s h count at bits =
    let f = (h.3 seat me.0 at).reader reads in
    let w = slice_index s.words 1 in
    let new : IsReaderIn h.0.course h.0.present (with_ahead me.0 (slice_index s.words 1) h.0.course.unread).reader = record {
      taken = f.2.taken;
      pulled = f.2.pulled;
      ahead = ([], append-nil h.0.course.unread);
      due = ([], (λ i. all_laid (f.1.1 i) (behind_all (f.1.1 i) 0 (f.2.pulled i)) h.0.course.unread));
      due_tags = ([], (λ i. tags_from (length (f.2.pulled i)) h.0.course.unread));
      earlier = f.2.earlier;
      found_earlier = f.2.found_earlier;
      seen = λ _ _. refl;
      timed = f.2.timed;
      end_found = f.2.end_found;
      last = f.2.last;
      last_seen = λ _ _. refl;
      over = λ e. over_now h.0.course h.0.desk h.0.present me.0.reader h.2 f.2 e;
    } in
    let least = h.1.standing.next_least in
    let most = h.1.standing.next_most in
    let next_tag_least = h.1.standing.next_tag_least in
    let next_tag_most = h.1.standing.next_tag_most in
    let words_count = h.1.counts.written_words in
    let tag_count = h.1.counts.written_tags in
    let words_most : words_of (slice_index s.words 1) ≤ words_pulled h.0.course + h.0.course.len = omega arith in
    let tags_most : tags_of (slice_index s.words 1) ≤ length h.0.course.pulled + h.0.course.tags = omega arith in
    let told : IsAhead me.0 (slice_index s.words 1) h.0.course.unread = record {
      words = h.1.counts.written_words ∙ (λ i. behind_all (sym f.1.1 i) 0 (sym f.2.pulled i ++ h.0.course.unread));
      tags = h.1.counts.written_tags ∙ (λ i. length (sym f.2.pulled i ++ h.0.course.unread));
      words_within = subst (λ (x : ℕ × List Offer). words_of (slice_index s.words 1) ≤ behind_all x.0 0 x.1 + x.0) (λ i. (sym f.1.1 i, sym f.2.pulled i)) words_most;
      tags_within = subst (λ (x : ℕ × List Offer). tags_of (slice_index s.words 1) ≤ length x.1 + x.0) (λ i. (sym f.1.2 i, sym f.2.pulled i)) tags_most;
      whole = subst (λ (x : ℕ). AllByRecursion (IsWhole x) h.0.course.unread) (sym f.1.0) h.2.sound.whole;
      over = λ e. (f.2.over e).2;
    } in (
      with_ahead me.0 (slice_index s.words 1) h.0.course.unread,
      keeps,
      tt,
      (h.0, same_words 1 s.words h.0 h.1, h.2, reads_on h.0 s.views seat me.0 (with_ahead me.0 (slice_index s.words 1) h.0.course.unread).reader h.3 at reads new),
      (refl, told),
    )

-- ---- words and tags are loaded

-- the words that are due stand in the ring, and so do the tags
words_due : (ws : List ℕ) (course : Course) (desk : Desk) (present : ℕ) (reader : ReaderView) → AreWords ws course desk present → IsReaderIn course present reader
    → Stands ws 5 course.len (words_pulled course) desk.next reader.due × AreFrom (words_pulled course) reader.due
words_due ws course desk present reader a f =
    let len = course.len in
    let b = a.standing in
    let unread : Stands ws 5 course.len (words_pulled course) desk.next (all_laid course.len (words_pulled course) course.unread) =
    stands-right ws 5 course.len (words_pulled course) desk.next (all_laid course.len 0 course.pulled) (all_laid course.len (words_pulled course) course.unread)
    (subst (Stands ws 5 course.len (words_pulled course) desk.next) (laid-append course.len 0 course.pulled course.unread)
    (stands-left ws 5 course.len (words_pulled course) desk.next (all_laid course.len 0 (kept_of course)) desk.draft b.words_stand)) in
    let split : all_laid course.len (words_pulled course) course.unread ≡ all_laid course.len (words_pulled course) reader.ahead ++ all_laid course.len (behind_all course.len (words_pulled course) reader.ahead) f.ahead.0 =
    ap (all_laid course.len (words_pulled course)) (sym f.ahead.1) ∙ laid-append course.len (words_pulled course) reader.ahead f.ahead.0 in
    let ahead : Stands ws 5 course.len (words_pulled course) desk.next (all_laid course.len (words_pulled course) reader.ahead) =
    stands-left ws 5 course.len (words_pulled course) desk.next (all_laid course.len (words_pulled course) reader.ahead) (all_laid course.len (behind_all course.len (words_pulled course) reader.ahead) f.ahead.0)
    (subst (Stands ws 5 course.len (words_pulled course) desk.next) split unread) in
    let above : AreFrom (words_pulled course) (all_laid course.len (words_pulled course) reader.ahead) = from-laid (words_pulled course) course.len (words_pulled course) reader.ahead (omega arith) in (
      stands-right ws 5 course.len (words_pulled course) desk.next f.due.0 reader.due (subst (Stands ws 5 course.len (words_pulled course) desk.next) (sym f.due.1) ahead),
      from-right (words_pulled course) f.due.0 reader.due (subst (AreFrom (words_pulled course)) (sym f.due.1) above),
    )

tags_due : (ws : List ℕ) (course : Course) (desk : Desk) (present : ℕ) (reader : ReaderView) → AreWords ws course desk present → IsReaderIn course present reader
    → Stands ws (5 + course.len) course.tags (length course.pulled) desk.next_tag reader.due_tags × AreFrom (length course.pulled) reader.due_tags
tags_due ws course desk present reader a f =
    let b = a.standing in
    let zero_plus : 0 + length course.pulled ≡ length course.pulled = omega arith in
    let unread : Stands ws (5 + course.len) course.tags (length course.pulled) desk.next_tag (tags_from (length course.pulled) course.unread) =
    subst (λ (t : ℕ). Stands ws (5 + course.len) course.tags (length course.pulled) desk.next_tag (tags_from t course.unread)) zero_plus
    (stands-right ws (5 + course.len) course.tags (length course.pulled) desk.next_tag (tags_from 0 course.pulled) (tags_from (0 + length course.pulled) course.unread)
    (subst (Stands ws (5 + course.len) course.tags (length course.pulled) desk.next_tag) (tags_from-append 0 course.pulled course.unread)
    (stands-left ws (5 + course.len) course.tags (length course.pulled) desk.next_tag (tags_from 0 (kept_of course)) desk.tag_draft b.tags_stand))) in
    let split : tags_from (length course.pulled) course.unread ≡ tags_from (length course.pulled) reader.ahead ++ tags_from (length course.pulled + length reader.ahead) f.ahead.0 =
    ap (tags_from (length course.pulled)) (sym f.ahead.1) ∙ tags_from-append (length course.pulled) reader.ahead f.ahead.0 in
    let ahead : Stands ws (5 + course.len) course.tags (length course.pulled) desk.next_tag (tags_from (length course.pulled) reader.ahead) =
    stands-left ws (5 + course.len) course.tags (length course.pulled) desk.next_tag (tags_from (length course.pulled) reader.ahead) (tags_from (length course.pulled + length reader.ahead) f.ahead.0)
    (subst (Stands ws (5 + course.len) course.tags (length course.pulled) desk.next_tag) split unread) in (
      stands-right ws (5 + course.len) course.tags (length course.pulled) desk.next_tag f.due_tags.0 reader.due_tags
          (subst (Stands ws (5 + course.len) course.tags (length course.pulled) desk.next_tag) (sym f.due_tags.1) ahead),
      from-right (length course.pulled) f.due_tags.0 reader.due_tags (subst (AreFrom (length course.pulled)) (sym f.due_tags.1) (from-tags (length course.pulled) reader.ahead)),
    )

pub loads_word : {S : Type 0} (slots seat place : ℕ) (me : Me S View) (st : Step S) → me.0.reads ≡ true → IsDueAt place me.0.len me.0.reader.due
    → Allows IsRing slots seat me (5 + place) (λ x. x) (loaded_word st me)
loads_word slots seat place me st reads due s h count at bits =
    let f = (h.3 seat me.0 at).reader reads in
    let d = words_due s.words h.0.course h.0.desk h.0.present me.0.reader h.1 f.2 in
    let word = due-word s.words 5 h.0.course.len (words_pulled h.0.course) h.0.desk.next place me.0.reader.due d.0 d.1 (subst (λ (n : ℕ). IsDueAt place n me.0.reader.due) f.1.1 due) in
    let new : IsReaderIn h.0.course h.0.present (record me.0.reader { due = drop 1 me.0.reader.due }) = record {
      taken = f.2.taken;
      pulled = f.2.pulled;
      ahead = f.2.ahead;
      due = shorter f.2.due.0 me.0.reader.due (all_laid h.0.course.len (words_pulled h.0.course) me.0.reader.ahead) f.2.due.1;
      due_tags = f.2.due_tags;
      earlier = f.2.earlier;
      found_earlier = f.2.found_earlier;
      seen = f.2.seen;
      timed = f.2.timed;
      end_found = f.2.end_found;
      last = f.2.last;
      last_seen = f.2.last_seen;
      over = f.2.over;
    } in (
      without_words me.0 1,
      keeps,
      tt,
      (h.0, same_words (5 + place) s.words h.0 h.1, h.2, reads_on h.0 s.views seat me.0 (record me.0.reader { due = drop 1 me.0.reader.due }) h.3 at reads new),
      (refl, word),
    )

pub loads_tag : {S : Type 0} (slots seat len place : ℕ) (me : Me S View) (st : Step S) → me.0.reads ≡ true → len ≡ me.0.len → IsDueAt place me.0.tags me.0.reader.due_tags
    → Allows IsRing slots seat me ((5 + len) + place) (λ x. x) (loaded_tag st me)
loads_tag slots seat len place me st reads len_is due s h count at bits =
    let f = (h.3 seat me.0 at).reader reads in
    let d = tags_due s.words h.0.course h.0.desk h.0.present me.0.reader h.1 f.2 in
    let tag = due-word s.words (5 + h.0.course.len) h.0.course.tags (length h.0.course.pulled) h.0.desk.next_tag place me.0.reader.due_tags d.0 d.1 (subst (λ (n : ℕ). IsDueAt place n me.0.reader.due_tags) f.1.2 due) in
    let tag' = subst (λ (n : ℕ). slice_index s.words ((5 + n) + place) ≡ first_word me.0.reader.due_tags) (sym (len_is ∙ f.1.1)) tag in
    let new : IsReaderIn h.0.course h.0.present (record me.0.reader { due_tags = drop 1 me.0.reader.due_tags }) = record {
      taken = f.2.taken;
      pulled = f.2.pulled;
      ahead = f.2.ahead;
      due = f.2.due;
      due_tags = shorter f.2.due_tags.0 me.0.reader.due_tags (tags_from (length h.0.course.pulled) me.0.reader.ahead) f.2.due_tags.1;
      earlier = f.2.earlier;
      found_earlier = f.2.found_earlier;
      seen = f.2.seen;
      timed = f.2.timed;
      end_found = f.2.end_found;
      last = f.2.last;
      last_seen = f.2.last_seen;
      over = f.2.over;
    } in (
      without_tags me.0 1,
      keeps,
      tt,
      (h.0, same_words ((5 + len) + place) s.words h.0 h.1, h.2, reads_on h.0 s.views seat me.0 (record me.0.reader { due_tags = drop 1 me.0.reader.due_tags }) h.3 at reads new),
      (refl, tag'),
    )

-- ---- `r` is stored

rest_none : (ahead rest : List Offer) → ahead ++ rest ≡ [] → rest ≡ []
rest_none ahead rest e = (let a : length ahead + length rest ≡ 0 = sym (length-append ahead rest) ∙ ap length e in nil_from_length rest (omega arith))

pub stores_read : {S : Type 0} (slots seat : ℕ) (me : Me S View) (r : ℕ) (st : Step S) → me.0.reads ≡ true → me.0.reader.due ≡ [] → me.0.reader.due_tags ≡ []
    → words_of r ≡ behind_all me.0.len 0 (me.0.reader.pulled ++ me.0.reader.ahead) → tags_of r ≡ length (me.0.reader.pulled ++ me.0.reader.ahead)
    → Allows IsRing slots seat me 0 (λ _. r) (λ _. stored_read st me r)
stores_read slots seat me r st reads due due_tags words tags_is s h count at bits =
    let f = (h.3 seat me.0 at).reader reads in
    let ahead = me.0.reader.ahead in
    let rest = f.2.ahead.0 in
    let there = store-read s.words h.0.course h.0.desk h.0.present h.1 r me.0.reader.ahead f.2.ahead.0 (h.0.course.taken ++ me.0.reader.ahead) f.2.ahead.1
    (words ∙ (λ i. behind_all (f.1.1 i) 0 (f.2.pulled i ++ me.0.reader.ahead))) (tags_is ∙ (λ i. length (f.2.pulled i ++ me.0.reader.ahead))) in
    let gone : me.0.reader.ahead ≡ h.0.course.unread → [] ≡ f.2.ahead.0 = λ e. sym (none_left me.0.reader.ahead f.2.ahead.0 h.0.course.unread f.2.ahead.1 e) in
    let new : IsReaderIn (batch_taken h.0.course me.0.reader.ahead f.2.ahead.0) h.0.present (with_batch me.0).reader = record {
      taken = ap (λ (os : List Offer). os ++ me.0.reader.ahead) f.2.taken;
      pulled = ap (λ (os : List Offer). os ++ me.0.reader.ahead) f.2.pulled;
      ahead = (f.2.ahead.0, refl);
      due = ([], due);
      due_tags = ([], due_tags);
      earlier = f.2.earlier;
      found_earlier = f.2.found_earlier;
      seen = λ a b. gone (f.2.seen a b);
      timed = f.2.timed;
      end_found = f.2.end_found;
      last = f.2.last;
      last_seen = λ a b. gone (f.2.last_seen a b);
      over = λ e. (let o = f.2.over e in (o.0, o.1, rest_none me.0.reader.ahead f.2.ahead.0 (f.2.ahead.1 ∙ o.2)));
    } in
    let numbers : AreNumbers (batch_taken h.0.course me.0.reader.ahead f.2.ahead.0) h.0.desk h.0.present = record {
      sound = batch-sound h.0.course h.2.sound me.0.reader.ahead f.2.ahead.0 f.2.ahead.1;
      pending = h.2.pending;
      change = h.2.change;
      quiet = h.2.quiet;
      ended = h.2.ended;
    } in
    let views = reader_goes h.0 (batch_taken h.0.course me.0.reader.ahead f.2.ahead.0) h.0.present s.views seat me.0 (with_batch me.0).reader (refl, refl, refl)
    (λ w g. writer-batch h.0.course h.0.desk h.0.present me.0.reader.ahead f.2.ahead.0 (h.0.course.taken ++ me.0.reader.ahead) w f.2.ahead.1 g) h.3 at reads new in
    (with_batch me.0, keeps, tt, (record h.0 { course = batch_taken h.0.course me.0.reader.ahead f.2.ahead.0 }, there, numbers, views), refl)

-- ---- the loss is taken

pub loads_since : {S : Type 0} (slots seat : ℕ) (me : Me S View) (st : Step S) → me.0.reads ≡ true → Allows IsRing slots seat me 3 (λ x. x) (loaded_since st me)
loads_since slots seat me st reads s h count at bits =
    let f = (h.3 seat me.0 at).reader reads in
    let new : IsReaderIn h.0.course h.0.present (with_time me.0 (slice_index s.words 3)).reader = record {
      taken = f.2.taken;
      pulled = f.2.pulled;
      ahead = f.2.ahead;
      due = f.2.due;
      due_tags = f.2.due_tags;
      earlier = f.2.earlier;
      found_earlier = f.2.found_earlier;
      seen = f.2.seen;
      timed = λ _ _. h.1.counts.since_is;
      end_found = f.2.end_found;
      last = f.2.last;
      last_seen = f.2.last_seen;
      over = f.2.over;
    } in
    (with_time me.0 (slice_index s.words 3), keeps, tt, (h.0, same_words 3 s.words h.0 h.1, h.2, reads_on h.0 s.views seat me.0 (with_time me.0 (slice_index s.words 3)).reader h.3 at reads new), refl)

word_differs : (overflow word : ℕ) → change_of word ≡ change_of overflow + 1 → word ≡ overflow → ⊥
word_differs overflow word next e = (let c : change_of word ≡ change_of overflow = ap change_of e in omega arith)

loss_won : {S : Type 0} (s : State S View) (slots seat : ℕ) (me : Me S View) (old word : ℕ) → IsRing s → get_elem? s.views seat ≡ some me.0 → me.0.reads ≡ true → me.0.reader.overflow ≡ old → 0 < count_of old
    → me.0.reader.has_seen ≡ true → me.0.reader.is_timed ≡ true → me.0.reader.ahead ≡ [] → count_of word ≡ 0 → change_of word ≡ change_of old + 1
    → slice_index s.words 2 ≡ old → Goes s 2 seat me word (exchanged_loss (step slots 2 old word none) me)
loss_won s slots seat me old word h at reads present_is pos has_seen is_timed none_ahead nil next e =
    let f = (h.3 seat me.0 at).reader reads in
    let present : h.0.present ≡ old = sym h.1.counts.present_is ∙ e in
    let pos' : 0 < count_of h.0.present = subst (λ (k : ℕ). 0 < count_of k) (sym present) pos in
    let pending : 0 < h.0.course.pending = subst (λ (k : ℕ). 0 < k) h.2.pending pos' in
    let stands : IsStanding h.0.present me.0.reader.overflow = record { some = subst (λ (k : ℕ). 0 < count_of k) (sym present_is) pos; same = present ∙ sym present_is } in
    let unread : h.0.course.unread ≡ [] = sym (f.2.seen stands has_seen) ∙ none_ahead in
    let time : me.0.reader.time ≡ h.0.course.since = f.2.timed stands is_timed in
    let change : change_of word ≡ change_of h.0.present + 1 = next ∙ ap (λ (k : ℕ). change_of k + 1) (sym present) in
    let change_seen : change_of word ≡ change_of me.0.reader.overflow + 1 = next ∙ ap (λ (k : ℕ). change_of k + 1) (sym present_is) in
    let change_found : change_of word ≡ change_of (slice_index s.words 2) + 1 = next ∙ ap (λ (k : ℕ). change_of k + 1) (sym e) in
    let loss : loss_of me.0 ≡ loss_offer h.0.course.hdrsize h.0.course.pending h.0.course.since =
    (λ i. loss_offer (f.1.0 i) ((ap count_of (sym stands.same) ∙ h.2.pending) i) (time i)) in
    let numbers : AreNumbers (lifted h.0.course) h.0.desk word = record {
      sound = lifted-sound h.0.course h.2.sound pending unread;
      pending = nil;
      change = change ∙ ap (λ (k : ℕ). k + 1) h.2.change;
      quiet = λ p. absurd (omega arith);
      ended = h.2.ended;
    } in
    let differs : word ≡ me.0.reader.overflow → ⊥ = word_differs me.0.reader.overflow word change_seen in
    let new : IsReaderIn (lifted h.0.course) word (with_loss me.0 (slice_index s.words 2)).reader = record {
      taken = (λ i. f.2.taken i ++ loss i ∷ []);
      pulled = f.2.pulled;
      ahead = f.2.ahead;
      due = f.2.due;
      due_tags = f.2.due_tags;
      earlier = record { change = omega arith; count = λ x. absurd (omega arith) };
      found_earlier = record { change = omega (arith, change_found); count = λ x. absurd (omega (arith, change_found)) };
      seen = λ x _. absurd (differs x.same);
      timed = λ x _. absurd (differs x.same);
      end_found = f.2.end_found;
      last = λ x. absurd (off x);
      last_seen = λ x _. absurd (off x);
      over = λ x. (let o = f.2.over x in (o.0, refl, o.2));
    } in
    let views = reader_goes h.0 (lifted h.0.course) word s.views seat me.0 (with_loss me.0 (slice_index s.words 2)).reader (refl, refl, refl)
    (λ w g. writer-lifted h.0.course h.0.desk h.0.present word (h.0.course.taken ++ loss_offer h.0.course.hdrsize h.0.course.pending h.0.course.since ∷ []) 0 (h.0.course.change + 1) w pos' nil change g) h.3 at reads new in (
      with_loss me.0 (slice_index s.words 2),
      keeps,
      tt,
      (
        record h.0 { course = lifted h.0.course; present = word },
        store-present s.words h.0.course h.0.desk h.0.present h.1 word h.0.course.offers (h.0.course.taken ++ loss_offer h.0.course.hdrsize h.0.course.pending h.0.course.since ∷ []) 0 (h.0.course.change + 1) h.0.course.owed,
        numbers,
        views,
      ),
      (λ _. refl, λ d. absurd (d e)),
    )

loss_raced : {S : Type 0} (s : State S View) (seat : ℕ) (me : Me S View) → IsRing s → get_elem? s.views seat ≡ some me.0 → me.0.reads ≡ true
    → IsRing (stepped s 2 (slice_index s.words 2) seat me.1 (without_loss me.0 (slice_index s.words 2)) keeps)
loss_raced s seat me h at reads =
    let f = (h.3 seat me.0 at).reader reads in
    let new : IsReaderIn h.0.course h.0.present (without_loss me.0 (slice_index s.words 2)).reader = record {
      taken = f.2.taken;
      pulled = f.2.pulled;
      ahead = f.2.ahead;
      due = f.2.due;
      due_tags = f.2.due_tags;
      earlier = f.2.earlier;
      found_earlier = earlier_self (slice_index s.words 2) h.0.present h.1.counts.present_is;
      seen = f.2.seen;
      timed = f.2.timed;
      end_found = f.2.end_found;
      last = λ x. absurd (off x);
      last_seen = λ x _. absurd (off x);
      over = f.2.over;
    } in
    (h.0, same_words 2 s.words h.0 h.1, h.2, reads_on h.0 s.views seat me.0 (without_loss me.0 (slice_index s.words 2)).reader h.3 at reads new)

pub exchanges_loss : {S : Type 0} (slots seat : ℕ) (me : Me S View) (old word : ℕ) → me.0.reads ≡ true → me.0.reader.overflow ≡ old → 0 < count_of old
    → me.0.reader.has_seen ≡ true → me.0.reader.is_timed ≡ true → me.0.reader.ahead ≡ [] → count_of word ≡ 0 → change_of word ≡ change_of old + 1
    → Allows IsRing slots seat me 2 (λ n. either (n == old) word n) (exchanged_loss (step slots 2 old word none) me)
exchanges_loss {S} slots seat me old word reads present_is pos has_seen is_timed none_ahead nil next s h count at bits =
    ⊎_elim
    (λ (e : slice_index s.words 2 ≡ old). subst (λ (m : ℕ). Goes s 2 seat me m (exchanged_loss (step slots 2 old word none) me)) (sym (won_is (slice_index s.words 2) old word e))
    (loss_won s slots seat me old word h at reads present_is pos has_seen is_timed none_ahead nil next e))
    (λ (d : slice_index s.words 2 ≡ old → ⊥). subst (λ (m : ℕ). Goes s 2 seat me m (exchanged_loss (step slots 2 old word none) me)) (sym (raced_is (slice_index s.words 2) old word d))
    (without_loss me.0 (slice_index s.words 2), keeps, tt, loss_raced s seat me h at reads, (λ e. absurd (d e), λ _. refl)))
    (same_or (slice_index s.words 2) old)

-- ---- at the start

zeros_are : (n i : ℕ) → i < n → slice_index (replicate n 0) i ≡ 0
zeros_are n i h = get_or-replicate n i 0 0 h

abbrev first_desk : Desk
first_desk = record { draft = []; next = 0; tag_draft = []; next_tag = 0 }

abbrev first_past : (hdrsize len tags : ℕ) → Past
first_past hdrsize len tags = record { course = first_course hdrsize len tags; desk = first_desk; present = 0; writer = 0; reader = 0 }

pub opens : (S : Type 0) (hdrsize len tags : ℕ) → 0 < len → 0 < tags → IsRing (opening {S = S} (replicate (5 + (len + tags)) 0) [] (first_view hdrsize len tags))
opens S hdrsize len tags some_words some_tags =
    let z0 : slice_index (replicate (5 + (len + tags)) 0) 0 ≡ 0 = zeros_are (5 + (len + tags)) 0 (omega arith) in
    let z1 : slice_index (replicate (5 + (len + tags)) 0) 1 ≡ 0 = zeros_are (5 + (len + tags)) 1 (omega arith) in (
      first_past hdrsize len tags,
      record {
        some_words = some_words;
        some_tags = some_tags;
        size = length-replicate (5 + (len + tags)) 0;
        counts = record {
          read_words = ap words_of z0;
          read_tags = ap tags_of z0;
          written_words = ap words_of z1;
          written_tags = ap tags_of z1;
          present_is = zeros_are (5 + (len + tags)) 2 (omega arith);
          since_is = zeros_are (5 + (len + tags)) 3 (omega arith);
          end_is = zeros_are (5 + (len + tags)) 4 (omega arith);
        };
        standing = record { words_stand = tt; next_least = omega arith; next_most = omega arith; tags_stand = tt; next_tag_least = omega arith; next_tag_most = omega arith };
      },
      record {
        sound = first-sound hdrsize len tags;
        pending = refl;
        change = refl;
        quiet = λ p. absurd (omega arith);
        ended = λ e. absurd (off e);
      },
      one,
    )
  where
    begun : Fits (first_past hdrsize len tags) 0 (first_view hdrsize len tags)
    begun = record {
      writer = λ _. (
        refl,
        (refl, refl, refl),
        record {
          offers = refl;
          records = refl;
          draft = refl;
          next = refl;
          tag_draft = refl;
          next_tag = refl;
          since = refl;
          owed = refl;
          closed = refl;
          present_is = inl refl;
          earlier = (earlier_self 0 0 refl, earlier_self 0 0 refl);
          read_words = omega arith;
          read_tags = omega arith;
        },
      );
      reader = λ _. (
        refl,
        (refl, refl, refl),
        record {
          taken = refl;
          pulled = refl;
          ahead = ([], refl);
          due = ([], refl);
          due_tags = ([], refl);
          earlier = earlier_self 0 0 refl;
          found_earlier = earlier_self 0 0 refl;
          seen = λ _ e. absurd (off e);
          timed = λ _ e. absurd (off e);
          end_found = λ e. absurd (omega arith);
          last = λ e. absurd (off e);
          last_seen = λ e _. absurd (off e);
          over = λ e. absurd (off e);
        },
      );
    }

    one : AllFit (first_past hdrsize len tags) (first_view hdrsize len tags ∷ [])
    one zero v e = subst (Fits (first_past hdrsize len tags) 0) (some-injective _ _ e) begun
    one (suc seat) v e = absurd (some-ne-none v (sym e))

-- ---- the cuts of seats

pub splits : {S : Type 0} (seat : ℕ) (v : View) → v.writes ≡ true → Splits {S = S} IsRing seat v (reader_of v) (writer_of v)
splits seat v writes s h at =
    let fits = h.3 seat v at in
    let f = fits.writer writes in
    let mine : Fits (record h.0 { writer = length (slice_set s.views seat (reader_of v)) }) seat (reader_of v) = record { writer = λ w. absurd (off w); reader = λ r. fits.reader r } in
    let first : AllFit (record h.0 { writer = length (slice_set s.views seat (reader_of v)) }) (slice_set s.views seat (reader_of v)) =
    all_set (Fits (record h.0 { writer = length (slice_set s.views seat (reader_of v)) })) s.views seat (reader_of v)
    (λ j u apart at'. record {
      writer = λ w. absurd (no_writer h.0 seat j u f.0 apart (h.3 j u at') w);
      reader = λ r. (h.3 j u at').reader r;
    }) mine in
    let theirs : Fits (record h.0 { writer = length (slice_set s.views seat (reader_of v)) }) (length (slice_set s.views seat (reader_of v))) (writer_of v) = record {
      writer = λ _. (refl, f.1, f.2);
      reader = λ r. absurd (off r);
    } in (
      record h.0 { writer = length (slice_set s.views seat (reader_of v)) },
      h.1,
      h.2,
      (λ j u e. ⊎_elim
          (λ (x : get_elem? (slice_set s.views seat (reader_of v)) j ≡ some u). first j u x)
          (λ (x : (j ≡ length (slice_set s.views seat (reader_of v))) × (writer_of v ≡ u)). subst (λ (y : ℕ × View). Fits (record h.0 { writer = length (slice_set s.views seat (reader_of v)) }) y.0 y.1) (λ i. (sym x.0 i, x.1 i)) theirs)
          (at_end (slice_set s.views seat (reader_of v)) (writer_of v) u j e)),
    )

pub joins : {S : Type 0} (seat : ℕ) (v : View) (other : ℕ) (w : View) → v.reads ≡ true → w.writes ≡ true → Joins {S = S} IsRing seat v other w (with_writer v w) nobody
joins seat v other w reads writes s h at apart there =
    let at_other = ⊎_elim (λ (t : (other ≡ seat) × (with_writer v w ≡ w)). absurd (apart t.0)) (λ (t : (other ≢ seat) × (get_elem? s.views other ≡ some w)). t.1) (at_set s.views seat other (with_writer v w) w there) in
    let f = (h.3 seat v at).reader reads in
    let g = (h.3 other w at_other).writer writes in
    let both : Fits (record h.0 { writer = seat }) seat (with_writer v w) = record {
      writer = λ _. (refl, f.1, g.2);
      reader = λ _. (f.0, f.1, f.2);
    } in
    let rest : (j : ℕ) (u : View) → j ≢ seat → j ≢ other → get_elem? s.views j ≡ some u → Fits (record h.0 { writer = seat }) j u =
    λ j u far far' e. record {
      writer = λ q. absurd (no_writer h.0 other j u g.0 far' (h.3 j u e) q);
      reader = λ q. absurd (no_reader h.0 seat j u f.0 far (h.3 j u e) q);
    } in
    let spent : Fits (record h.0 { writer = seat }) other nobody = record { writer = λ q. absurd (off q); reader = λ q. absurd (off q) } in (
      record h.0 { writer = seat },
      h.1,
      h.2,
      (λ j u e. ⊎_elim
          (λ (x : (j ≡ other) × (nobody ≡ u)). subst (λ (y : ℕ × View). Fits (record h.0 { writer = seat }) y.0 y.1) (λ i. (sym x.0 i, x.1 i)) spent)
          (λ (x : (j ≢ other) × (get_elem? (slice_set s.views seat (with_writer v w)) j ≡ some u)). ⊎_elim
          (λ (y : (j ≡ seat) × (with_writer v w ≡ u)). subst (λ (z : ℕ × View). Fits (record h.0 { writer = seat }) z.0 z.1) (λ i. (sym y.0 i, y.1 i)) both)
          (λ (y : (j ≢ seat) × (get_elem? s.views j ≡ some u)). rest j u y.0 x.0 y.1)
          (at_set s.views seat j (with_writer v w) u x.1))
          (at_set (slice_set s.views seat (with_writer v w)) other j nobody u e)),
    )
