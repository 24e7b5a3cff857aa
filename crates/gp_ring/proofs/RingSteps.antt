-- Each kind of step of the writer keeps the rule of a ring.
use Rattle.std.proofs.Common.{◌≡◌, ◌⊎◌, ℕ, ◌+◌, ◌-◌, ◌*◌, ◌%◌, ◌<◌, ◌≤◌, ◌^◌, Bool, List, [], ◌∷◌, ◌++◌, length, true, false, refl, ap, sym, subst, ◌∙◌, inl, inr, ⊎_elim, length-append, arith}
use Rattle.std.specs.Prelude.{slice_set, slice_index, ◌==◌}
use mathlib.Core.Option.{none, some}
use lib.ListN.{get_elem?}
use prog.Atomic.{either}
use Rattle.std.proofs.lemmas.List.{set-get_or, append_assoc}
use Rattle.std.proofs.lemmas.Bool.Decides.{nat_tests}
use Rattle.atomic_table.specs.Table.{State, Step, Me, Act, Valid, Allows, step, stepped, carried_after}
use Rattle.atomic_table.specs.Table.Act.{keeps}
use Rattle.gp_layout.specs.Words.{words_of, tags_of, count_of, change_of}
use Rattle.gp_ring.specs.Records.{Offer, IsOffer, fit_twice, words_for_all}
use Rattle.gp_ring.specs.Counts.{behind, behind_all}
use Rattle.gp_ring.specs.Course.{Course, kept_of, words_kept, loss_offer, IsBounded, delivered, first_lost, one_lost, owing, paid}
use Rattle.gp_ring.specs.kept.Traces.{laid_at}
use Rattle.gp_ring.specs.kept.Views.{with_read, with_words, with_mark, with_tag, with_delivered, owed_of, with_paid, with_overflow, with_since, with_lost, with_exchange, with_raced, with_owed, with_closed}
use Rattle.gp_ring.specs.kept.Views.{IsWithin, IsLifted, IsCounted, loaded_read, stored_word, stored_mark, stored_tag, stored_delivered, stored_paid, loaded_overflow, stored_since, stored_lost, exchanged_flush, exchanged_bump, stored_end}
use Rattle.gp_ring.specs.kept.RingRule.{Desk, Past, AreWords, AreNumbers, IsQuiet, IsWriterIn, IsEarlier, IsSizedAs, AllFit, IsRing, words_pulled}
use Rattle.gp_ring.specs.declared.between.view.View.{View}
use Rattle.gp_ring.specs.declared.between.view.WriterView.{WriterView}
use Rattle.gp_ring.proofs.Tracing.{behind-front}
use Rattle.gp_ring.proofs.CourseLaws.{delivered-sound, since-sound, first-lost-sound, one-lost-sound, owing-sound, paid-sound, end-sound}
use Rattle.gp_ring.proofs.RingWords.{store-word, store-tag, store-written, store-present, store-since, store-end}
use Rattle.gp_ring.proofs.RingViews.{off, writer_goes, reader-more, reader-since, reader-end, reader-present, IsLater, later_earlier, earlier_self}

-- ---- what the writer knows of overflow

pub zero_above : (n : ℕ) → n ≡ 0 → 0 < n → ⊥
zero_above n e h = omega arith

-- where it knows of no loss none is pending
pub present-same : (course : Course) (desk : Desk) (present : ℕ) (w : WriterView) → IsWriterIn course desk present w → count_of w.present ≡ 0 → present ≡ w.present
present-same course desk present w f z = ⊎_elim (λ (e : present ≡ w.present). e) (λ (l : IsLifted w.present present). absurd (zero_above (count_of w.present) z l.0)) f.present_is

pub present-none : (course : Course) (desk : Desk) (present : ℕ) (w : WriterView) → IsWriterIn course desk present w → count_of w.present ≡ 0 → count_of present ≡ 0
present-none course desk present w f z = ap count_of (present-same course desk present w f z) ∙ z

pending-none : (course : Course) (desk : Desk) (present : ℕ) (w : WriterView) → AreNumbers course desk present → IsWriterIn course desk present w → count_of w.present ≡ 0 → course.pending ≡ 0
pending-none course desk present w n f z = sym n.pending ∙ present-none course desk present w f z

-- the numbers, when the writer's desk changes while no loss is pending
numbers-desk : (course : Course) (desk desk' : Desk) (present : ℕ) (w : WriterView) → AreNumbers course desk present → IsWriterIn course desk present w → count_of w.present ≡ 0 → w.closed ≡ false → AreNumbers course desk' present
numbers-desk course desk desk' present w n f z o = record {
  sound = n.sound;
  pending = n.pending;
  change = n.change;
  quiet = λ p. absurd (zero_above course.pending (pending-none course desk present w n f z) p);
  ended = λ e. absurd (off (sym o ∙ (f.closed ∙ e)));
}

-- ---- `r` is loaded

pub same_words : (i : ℕ) (ws : List ℕ) (past : Past) → AreWords ws past.course past.desk past.present → AreWords (slice_set ws i (slice_index ws i)) past.course past.desk past.present
same_words i ws past a = subst (λ (xs : List ℕ). AreWords xs past.course past.desk past.present) (sym (set-get_or ws i 0)) a

within_ring : (ws : List ℕ) (course : Course) (desk : Desk) (present : ℕ) → AreWords ws course desk present
    → IsWithin course.len course.tags (slice_index ws 0) (words_kept course) (length (kept_of course))
within_ring ws course desk present a =
    let e = a.counts.read_words in
    let f = a.counts.read_tags in
    let m = behind-front course.len 0 course.pulled course.unread in
    let l = length-append course.pulled course.unread in
    let least = a.standing.next_least in
    let most = a.standing.next_most in
    let next_tag_least = a.standing.next_tag_least in
    let next_tag_most = a.standing.next_tag_most in
    record { words_before = omega arith; words_within = omega arith; tags_before = omega arith; tags_within = omega arith }

pub loads_read : {S : Type 0} (slots seat : ℕ) (me : Me S View) (st : Step S) → me.0.writes ≡ true → Allows IsRing slots seat me 0 (λ x. x) (loaded_read st me)
loads_read slots seat me st writes s h count at bits =
    let f = (h.3 seat me.0 at).writer writes in
    let r = slice_index s.words 0 in
    let e = h.1.counts.read_words in
    let g = h.1.counts.read_tags in
    let new : IsWriterIn h.0.course h.0.desk h.0.present (record me.0.writer { loads = me.0.writer.loads + 1; read = slice_index s.words 0 }) = record {
      offers = f.2.offers;
      records = f.2.records;
      draft = f.2.draft;
      next = f.2.next;
      tag_draft = f.2.tag_draft;
      next_tag = f.2.next_tag;
      since = f.2.since;
      owed = f.2.owed;
      closed = f.2.closed;
      present_is = f.2.present_is;
      earlier = f.2.earlier;
      read_words = omega (arith, h.1.counts.read_words);
      read_tags = omega (arith, h.1.counts.read_tags);
    } in
    let views = writer_goes h.0 h.0.course h.0.desk h.0.present s.views seat me.0 (record me.0.writer { loads = me.0.writer.loads + 1; read = slice_index s.words 0 }) (refl, refl, refl) (λ r f. f) h.3 at writes new in
    let within = subst (λ (x : ℕ × ℕ × List Offer). IsWithin x.0 x.1 (slice_index s.words 0) (behind_all x.0 0 x.2) (length x.2)) (λ i. (sym f.1.1 i, sym f.1.2 i, sym f.2.records i))
    (within_ring s.words h.0.course h.0.desk h.0.present h.1) in
    (with_read me.0 (slice_index s.words 0), keeps, tt, (h.0, same_words 0 s.words h.0 h.1, h.2, views), (refl, within))

-- ---- words and tags are stored

-- the writer's `next`, less than a round behind the `r` that it loaded
next_fits : (course : Course) (desk : Desk) (present : ℕ) (w : WriterView) (up : ℕ) → IsWriterIn course desk present w → w.next + up ≤ words_of w.read + course.len → desk.next + up ≤ words_pulled course + course.len
next_fits course desk present w up f h = let n = f.next in let r = f.read_words in omega arith

stored_next : (past : Past) (views : List View) (seat : ℕ) (v : View) (word up : ℕ) → AllFit past views → get_elem? views seat ≡ some v → v.writes ≡ true
    → AllFit (record past { desk = record past.desk { draft = past.desk.draft ++ (past.desk.next, word) ∷ []; next = past.desk.next + up } })
    (slice_set views seat (record v { writer = record v.writer { draft = v.writer.draft ++ (v.writer.next, word) ∷ []; next = v.writer.next + up } }))
stored_next past views seat v word up fit at writes =
    let f = ((fit seat v at).writer writes).2 in
    let new : IsWriterIn past.course (record past.desk { draft = past.desk.draft ++ (past.desk.next, word) ∷ []; next = past.desk.next + up }) past.present
    (record v.writer { draft = v.writer.draft ++ (v.writer.next, word) ∷ []; next = v.writer.next + up }) = record {
      offers = f.offers;
      records = f.records;
      draft = λ i. f.draft i ++ (f.next i, word) ∷ [];
      next = ap (λ (n : ℕ). n + up) f.next;
      tag_draft = f.tag_draft;
      next_tag = f.next_tag;
      since = f.since;
      owed = f.owed;
      closed = f.closed;
      present_is = f.present_is;
      earlier = f.earlier;
      read_words = f.read_words;
      read_tags = f.read_tags;
    } in
    writer_goes past past.course (record past.desk { draft = past.desk.draft ++ (past.desk.next, word) ∷ []; next = past.desk.next + up }) past.present views seat v
    (record v.writer { draft = v.writer.draft ++ (v.writer.next, word) ∷ []; next = v.writer.next + up }) (refl, refl, refl) (λ r g. g) fit at writes new

place_of : (course : Course) (desk : Desk) (present : ℕ) (v : View) (place : ℕ) → v.len ≡ course.len → IsWriterIn course desk present v.writer → place ≡ v.writer.next % v.len → 5 + desk.next % course.len ≡ 5 + place
place_of course desk present v place l f e = ap (λ (p : ℕ). 5 + p) (sym (e ∙ (λ i. f.next i % l i)))

pub stores_word : {S : Type 0} (slots seat place : ℕ) (me : Me S View) (word : ℕ) (st : Step S) → me.0.writes ≡ true → count_of me.0.writer.present ≡ 0 → me.0.writer.closed ≡ false
    → place ≡ me.0.writer.next % me.0.len → me.0.writer.next < words_of me.0.writer.read + me.0.len → Allows IsRing slots seat me (5 + place) (λ _. word) (λ _. stored_word st me word)
stores_word slots seat place me word st writes quiet is_open place_is free s h count at bits =
    let f = (h.3 seat me.0 at).writer writes in
    let l : me.0.len ≡ h.0.course.len = f.1.1 in
    let free' : me.0.writer.next + 1 ≤ words_of me.0.writer.read + h.0.course.len = omega (arith, f.1.1) in
    let words = store-word s.words h.0.course h.0.desk h.0.present h.1 word 1 (omega arith) (next_fits h.0.course h.0.desk h.0.present me.0.writer 1 f.2 free') in
    let desk' : Desk = record h.0.desk { draft = h.0.desk.draft ++ (h.0.desk.next, word) ∷ []; next = h.0.desk.next + 1 } in (
      with_words me.0 (word ∷ []),
      keeps,
      tt,
      (
        record h.0 { desk = record h.0.desk { draft = h.0.desk.draft ++ (h.0.desk.next, word) ∷ []; next = h.0.desk.next + 1 } },
        subst (λ (i : ℕ). AreWords (slice_set s.words i word) h.0.course (record h.0.desk { draft = h.0.desk.draft ++ (h.0.desk.next, word) ∷ []; next = h.0.desk.next + 1 }) h.0.present)
            (place_of h.0.course h.0.desk h.0.present me.0 place f.1.1 f.2 place_is) words,
        numbers-desk h.0.course h.0.desk (record h.0.desk { draft = h.0.desk.draft ++ (h.0.desk.next, word) ∷ []; next = h.0.desk.next + 1 }) h.0.present me.0.writer h.2 f.2 quiet is_open,
        stored_next h.0 s.views seat me.0 word 1 h.3 at writes,
      ),
      refl,
    )

pub stores_mark : {S : Type 0} (slots seat place : ℕ) (me : Me S View) (st : Step S) → me.0.writes ≡ true → count_of me.0.writer.present ≡ 0 → me.0.writer.closed ≡ false
    → place < me.0.len → place ≡ me.0.writer.next % me.0.len
    → me.0.writer.next + (me.0.len - me.0.writer.next % me.0.len) ≤ words_of me.0.writer.read + me.0.len → Allows IsRing slots seat me (5 + place) (λ _. 0) (λ _. stored_mark st me 0)
stores_mark slots seat place me st writes quiet is_open within place_is free s h count at bits =
    let f = (h.3 seat me.0 at).writer writes in
    let l : me.0.len ≡ h.0.course.len = f.1.1 in
    let some : 1 ≤ me.0.len - me.0.writer.next % me.0.len = omega (arith, within, place_is) in
    let free' : me.0.writer.next + (me.0.len - me.0.writer.next % me.0.len) ≤ words_of me.0.writer.read + h.0.course.len = omega (arith, f.1.1) in
    let words = store-word s.words h.0.course h.0.desk h.0.present h.1 0 (me.0.len - me.0.writer.next % me.0.len) some (next_fits h.0.course h.0.desk h.0.present me.0.writer (me.0.len - me.0.writer.next % me.0.len) f.2 free') in (
      with_mark me.0,
      keeps,
      tt,
      (
        record h.0 { desk = record h.0.desk { draft = h.0.desk.draft ++ (h.0.desk.next, 0) ∷ []; next = h.0.desk.next + (me.0.len - me.0.writer.next % me.0.len) } },
        subst (λ (i : ℕ). AreWords (slice_set s.words i 0) h.0.course (record h.0.desk { draft = h.0.desk.draft ++ (h.0.desk.next, 0) ∷ []; next = h.0.desk.next + (me.0.len - me.0.writer.next % me.0.len) }) h.0.present)
            (place_of h.0.course h.0.desk h.0.present me.0 place f.1.1 f.2 place_is) words,
        numbers-desk h.0.course h.0.desk (record h.0.desk { draft = h.0.desk.draft ++ (h.0.desk.next, 0) ∷ []; next = h.0.desk.next + (me.0.len - me.0.writer.next % me.0.len) }) h.0.present me.0.writer h.2 f.2 quiet is_open,
        stored_next h.0 s.views seat me.0 0 (me.0.len - me.0.writer.next % me.0.len) h.3 at writes,
      ),
      refl,
    )

pub stores_tag : {S : Type 0} (slots seat len place : ℕ) (me : Me S View) (tag : ℕ) (st : Step S) → me.0.writes ≡ true → count_of me.0.writer.present ≡ 0 → me.0.writer.closed ≡ false
    → len ≡ me.0.len → place ≡ me.0.writer.next_tag % me.0.tags
    → me.0.writer.next_tag < tags_of me.0.writer.read + me.0.tags → Allows IsRing slots seat me ((5 + len) + place) (λ _. tag) (λ _. stored_tag st me tag)
stores_tag slots seat len place me tag st writes quiet is_open len_is place_is free s h count at bits =
    let f = (h.3 seat me.0 at).writer writes in
    let t : me.0.tags ≡ h.0.course.tags = f.1.2 in
    let n = f.2.next_tag in
    let r = f.2.read_tags in
    let fits : h.0.desk.next_tag + 1 ≤ length h.0.course.pulled + h.0.course.tags = omega arith in
    let words = store-tag s.words h.0.course h.0.desk h.0.present h.1 tag fits in
    let index : (5 + h.0.course.len) + h.0.desk.next_tag % h.0.course.tags ≡ (5 + len) + place = sym (λ i. (5 + (len_is ∙ f.1.1) i) + (place_is ∙ (λ j. f.2.next_tag j % f.1.2 j)) i) in
    let desk' : Desk = record h.0.desk { tag_draft = h.0.desk.tag_draft ++ (h.0.desk.next_tag, tag) ∷ []; next_tag = h.0.desk.next_tag + 1 } in
    let new : IsWriterIn h.0.course (record h.0.desk { tag_draft = h.0.desk.tag_draft ++ (h.0.desk.next_tag, tag) ∷ []; next_tag = h.0.desk.next_tag + 1 }) h.0.present
    (record me.0.writer { tag_draft = me.0.writer.tag_draft ++ (me.0.writer.next_tag, tag) ∷ []; next_tag = me.0.writer.next_tag + 1 }) = record {
      offers = f.2.offers;
      records = f.2.records;
      draft = f.2.draft;
      next = f.2.next;
      tag_draft = λ i. f.2.tag_draft i ++ (f.2.next_tag i, tag) ∷ [];
      next_tag = ap (λ (k : ℕ). k + 1) f.2.next_tag;
      since = f.2.since;
      owed = f.2.owed;
      closed = f.2.closed;
      present_is = f.2.present_is;
      earlier = f.2.earlier;
      read_words = f.2.read_words;
      read_tags = f.2.read_tags;
    } in (
      with_tag me.0 tag,
      keeps,
      tt,
      (
        record h.0 { desk = record h.0.desk { tag_draft = h.0.desk.tag_draft ++ (h.0.desk.next_tag, tag) ∷ []; next_tag = h.0.desk.next_tag + 1 } },
        subst (λ (i : ℕ). AreWords (slice_set s.words i tag) h.0.course (record h.0.desk { tag_draft = h.0.desk.tag_draft ++ (h.0.desk.next_tag, tag) ∷ []; next_tag = h.0.desk.next_tag + 1 }) h.0.present) index words,
        numbers-desk h.0.course h.0.desk (record h.0.desk { tag_draft = h.0.desk.tag_draft ++ (h.0.desk.next_tag, tag) ∷ []; next_tag = h.0.desk.next_tag + 1 }) h.0.present me.0.writer h.2 f.2 quiet is_open,
        writer_goes h.0 h.0.course (record h.0.desk { tag_draft = h.0.desk.tag_draft ++ (h.0.desk.next_tag, tag) ∷ []; next_tag = h.0.desk.next_tag + 1 }) h.0.present s.views seat me.0
            (record me.0.writer { tag_draft = me.0.writer.tag_draft ++ (me.0.writer.next_tag, tag) ∷ []; next_tag = me.0.writer.next_tag + 1 }) (refl, refl, refl) (λ r g. g) h.3 at writes new,
      ),
      refl,
    )

-- ---- `w` is stored

published : (past : Past) (views : List View) (seat : ℕ) (v : View) (o : Offer) (offers : List Offer) (owed : ℕ) → AllFit past views → get_elem? views seat ≡ some v → v.writes ≡ true
    → count_of v.writer.present ≡ 0 → v.writer.closed ≡ false
    → AllFit (record past { course = record past.course { offers = offers; unread = past.course.unread ++ o ∷ []; owed = owed }; desk = record past.desk { draft = []; tag_draft = [] } })
    (slice_set views seat (record v { writer = record v.writer { offers = offers; records = v.writer.records ++ o ∷ []; draft = []; tag_draft = []; owed = owed } }))
published past views seat v o offers owed fit at writes quiet is_open =
    let f = ((fit seat v at).writer writes).2 in
    let none : count_of past.present ≡ 0 = present-none past.course past.desk past.present v.writer f quiet in
    let new : IsWriterIn (record past.course { offers = offers; unread = past.course.unread ++ o ∷ []; owed = owed }) (record past.desk { draft = []; tag_draft = [] }) past.present
    (record v.writer { offers = offers; records = v.writer.records ++ o ∷ []; draft = []; tag_draft = []; owed = owed }) = record {
      offers = refl;
      records = ap (λ (os : List Offer). os ++ o ∷ []) f.records ∙ append_assoc past.course.pulled past.course.unread (o ∷ []);
      draft = refl;
      next = f.next;
      tag_draft = refl;
      next_tag = f.next_tag;
      since = f.since;
      owed = refl;
      closed = f.closed;
      present_is = f.present_is;
      earlier = f.earlier;
      read_words = f.read_words;
      read_tags = f.read_tags;
    } in
    writer_goes past (record past.course { offers = offers; unread = past.course.unread ++ o ∷ []; owed = owed }) (record past.desk { draft = []; tag_draft = [] }) past.present views seat v
    (record v.writer { offers = offers; records = v.writer.records ++ o ∷ []; draft = []; tag_draft = []; owed = owed }) (refl, refl, refl)
    (λ r g. reader-more past.course past.present o offers owed r none (sym f.closed ∙ is_open) g) fit at writes new

pub stores_delivered : {S : Type 0} (slots seat : ℕ) (me : Me S View) (w : ℕ) (o : Offer) (st : Step S) → me.0.writes ≡ true → count_of me.0.writer.present ≡ 0 → me.0.writer.closed ≡ false
    → me.0.writer.owed ≡ 0 → IsOffer me.0.hdrsize me.0.len o → length me.0.writer.offers < 2 ^ 30
    → me.0.writer.draft ≡ laid_at me.0.len (behind_all me.0.len 0 me.0.writer.records) o → me.0.writer.tag_draft ≡ (length me.0.writer.records, o.tag) ∷ []
    → me.0.writer.next ≡ words_of w → me.0.writer.next_tag ≡ tags_of w
    → words_of w ≡ behind me.0.len (behind_all me.0.len 0 me.0.writer.records) o → tags_of w ≡ length me.0.writer.records + 1
    → Allows IsRing slots seat me 1 (λ _. w) (λ _. stored_delivered o st me w)
stores_delivered slots seat me w o st writes quiet is_open none_owed offer few draft tag_draft next next_tag words tags_is s h count at bits =
    let f = (h.3 seat me.0 at).writer writes in
    let course = h.0.course in
    let there = store-written s.words h.0.course h.0.desk h.0.present h.1 w o (h.0.course.offers ++ o ∷ []) h.0.course.owed
    (sym f.2.draft ∙ draft ∙ (λ i. laid_at (f.1.1 i) (behind_all (f.1.1 i) 0 (f.2.records i)) o))
    (sym f.2.tag_draft ∙ tag_draft ∙ (λ i. (length (f.2.records i), o.tag) ∷ []))
    (words ∙ (λ i. behind (f.1.1 i) (behind_all (f.1.1 i) 0 (f.2.records i)) o))
    (tags_is ∙ (λ i. length (f.2.records i) + 1))
    (sym f.2.next ∙ next) (sym f.2.next_tag ∙ next_tag) in
    let pending = pending-none h.0.course h.0.desk h.0.present me.0.writer h.2 f.2 quiet in
    let owed = sym f.2.owed ∙ none_owed in
    let offer' : IsOffer h.0.course.hdrsize h.0.course.len o = subst (λ (x : ℕ × ℕ). IsOffer x.0 x.1 o) (λ i. (f.1.0 i, f.1.1 i)) offer in
    let few' : length h.0.course.offers < 2 ^ 30 = subst (λ (os : List Offer). length os < 2 ^ 30) f.2.offers few in
    let numbers : AreNumbers (delivered h.0.course o) (record h.0.desk { draft = []; tag_draft = [] }) h.0.present = record {
      sound = delivered-sound h.0.course h.2.sound o pending owed offer' few';
      pending = h.2.pending;
      change = h.2.change;
      quiet = λ _. record { none_owed = owed; draft = refl; tag_draft = refl };
      ended = λ _. record { none_owed = owed; draft = refl; tag_draft = refl };
    } in
    let views : AllFit (record h.0 { course = delivered h.0.course o; desk = record h.0.desk { draft = []; tag_draft = [] } }) (slice_set s.views seat (with_delivered me.0 o)) =
    subst (λ (x : List Offer × ℕ). AllFit (record h.0 { course = delivered h.0.course o; desk = record h.0.desk { draft = []; tag_draft = [] } })
    (slice_set s.views seat (record me.0 { writer = record me.0.writer { offers = x.0; records = me.0.writer.records ++ o ∷ []; draft = []; tag_draft = []; owed = x.1 } })))
    (λ i. (sym f.2.offers i ++ o ∷ [], sym f.2.owed i))
    (published h.0 s.views seat me.0 o (h.0.course.offers ++ o ∷ []) h.0.course.owed h.3 at writes quiet is_open) in
    (with_delivered me.0 o, keeps, tt, (record h.0 { course = delivered h.0.course o; desk = record h.0.desk { draft = []; tag_draft = [] } }, there, numbers, views), refl)

pub stores_paid : {S : Type 0} (slots seat : ℕ) (me : Me S View) (w : ℕ) (st : Step S) → me.0.writes ≡ true → count_of me.0.writer.present ≡ 0 → me.0.writer.closed ≡ false
    → 0 < me.0.writer.owed
    → me.0.writer.draft ≡ laid_at me.0.len (behind_all me.0.len 0 me.0.writer.records) (owed_of me.0) → me.0.writer.tag_draft ≡ (length me.0.writer.records, 0) ∷ []
    → me.0.writer.next ≡ words_of w → me.0.writer.next_tag ≡ tags_of w
    → words_of w ≡ behind me.0.len (behind_all me.0.len 0 me.0.writer.records) (owed_of me.0) → tags_of w ≡ length me.0.writer.records + 1
    → Allows IsRing slots seat me 1 (λ _. w) (λ _. stored_paid st me w)
stores_paid slots seat me w st writes quiet is_open some_owed draft tag_draft next next_tag words tags_is s h count at bits =
    let f = (h.3 seat me.0 at).writer writes in
    let loss : owed_of me.0 ≡ loss_offer h.0.course.hdrsize h.0.course.owed h.0.course.since = (λ i. loss_offer (f.1.0 i) (f.2.owed i) (f.2.since i)) in
    let o = loss_offer h.0.course.hdrsize h.0.course.owed h.0.course.since in
    let there = store-written s.words h.0.course h.0.desk h.0.present h.1 w (loss_offer h.0.course.hdrsize h.0.course.owed h.0.course.since) h.0.course.offers 0
    (sym f.2.draft ∙ draft ∙ (λ i. laid_at (f.1.1 i) (behind_all (f.1.1 i) 0 (f.2.records i)) (loss i)))
    (sym f.2.tag_draft ∙ tag_draft ∙ (λ i. (length (f.2.records i), 0) ∷ []))
    (words ∙ (λ i. behind (f.1.1 i) (behind_all (f.1.1 i) 0 (f.2.records i)) (loss i)))
    (tags_is ∙ (λ i. length (f.2.records i) + 1))
    (sym f.2.next ∙ next) (sym f.2.next_tag ∙ next_tag) in
    let pending = pending-none h.0.course h.0.desk h.0.present me.0.writer h.2 f.2 quiet in
    let some : 0 < h.0.course.owed = subst (λ (k : ℕ). 0 < k) f.2.owed some_owed in
    let numbers : AreNumbers (paid h.0.course) (record h.0.desk { draft = []; tag_draft = [] }) h.0.present = record {
      sound = paid-sound h.0.course h.2.sound pending some;
      pending = h.2.pending;
      change = h.2.change;
      quiet = λ _. record { none_owed = refl; draft = refl; tag_draft = refl };
      ended = λ _. record { none_owed = refl; draft = refl; tag_draft = refl };
    } in
    let views : AllFit (record h.0 { course = paid h.0.course; desk = record h.0.desk { draft = []; tag_draft = [] } }) (slice_set s.views seat (with_paid me.0)) =
    subst (λ (x : List Offer × Offer). AllFit (record h.0 { course = paid h.0.course; desk = record h.0.desk { draft = []; tag_draft = [] } })
    (slice_set s.views seat (record me.0 { writer = record me.0.writer { offers = x.0; records = me.0.writer.records ++ x.1 ∷ []; draft = []; tag_draft = []; owed = 0 } })))
    (λ i. (sym f.2.offers i, sym loss i))
    (published h.0 s.views seat me.0 (loss_offer h.0.course.hdrsize h.0.course.owed h.0.course.since) h.0.course.offers 0 h.3 at writes quiet is_open) in
    (with_paid me.0, keeps, tt, (record h.0 { course = paid h.0.course; desk = record h.0.desk { draft = []; tag_draft = [] } }, there, numbers, views), refl)

-- ---- overflow is loaded

counted : (ws : List ℕ) (course : Course) (desk : Desk) (present : ℕ) (v : View) → AreWords ws course desk present → AreNumbers course desk present → IsSizedAs course v → IsWriterIn course desk present v.writer
    → IsCounted v (slice_index ws 2)
counted ws course desk present v a n z f =
    let p : count_of (slice_index ws 2) ≡ course.pending = ap count_of a.counts.present_is ∙ n.pending in
    let c : change_of (slice_index ws 2) ≡ course.change = ap change_of a.counts.present_is ∙ n.change in
    record {
      bounded = subst (λ (x : ℕ × List Offer × ℕ × ℕ × ℕ × ℕ × ℕ). IsBounded x.0 x.1 x.2 x.3 x.4 x.5 x.6)
          (λ i. (sym z.0 i, sym f.offers i, behind_all (sym z.1 i) 0 (sym f.records i), length (sym f.records i), sym p i, sym f.owed i, sym c i)) n.sound.bounded;
      fits = λ e.
          let e' : fit_twice course.hdrsize course.len course.tags course.offers ≡ true = (λ i. fit_twice (sym z.0 i) (sym z.1 i) (sym z.2 i) (sym f.offers i)) ∙ e in
          let l = n.sound.lossless e' in (
            p ∙ l.none_pending,
            subst (λ (x : ℕ × List Offer × ℕ × List Offer). behind_all x.0 0 x.1 ≤ 2 * words_for_all x.2 x.3) (λ i. (sym z.1 i, sym f.records i, sym z.0 i, sym f.offers i)) l.words,
          );
    }

pub loads_overflow : {S : Type 0} (slots seat : ℕ) (me : Me S View) (st : Step S) → me.0.writes ≡ true → Allows IsRing slots seat me 2 (λ x. x) (loaded_overflow st me)
loads_overflow slots seat me st writes s h count at bits =
    let f = (h.3 seat me.0 at).writer writes in
    let new : IsWriterIn h.0.course h.0.desk h.0.present (record me.0.writer { present = slice_index s.words 2; overflow_loads = me.0.writer.overflow_loads + 1; overflow = slice_index s.words 2 }) = record {
      offers = f.2.offers;
      records = f.2.records;
      draft = f.2.draft;
      next = f.2.next;
      tag_draft = f.2.tag_draft;
      next_tag = f.2.next_tag;
      since = f.2.since;
      owed = f.2.owed;
      closed = f.2.closed;
      present_is = inl (sym h.1.counts.present_is);
      earlier = (earlier_self (slice_index s.words 2) h.0.present h.1.counts.present_is, f.2.earlier.1);
      read_words = f.2.read_words;
      read_tags = f.2.read_tags;
    } in
    let views = writer_goes h.0 h.0.course h.0.desk h.0.present s.views seat me.0 (record me.0.writer { present = slice_index s.words 2; overflow_loads = me.0.writer.overflow_loads + 1; overflow = slice_index s.words 2 })
    (refl, refl, refl) (λ r g. g) h.3 at writes new in
    (with_overflow me.0 (slice_index s.words 2), keeps, tt, (h.0, same_words 2 s.words h.0 h.1, h.2, views), (refl, counted s.words h.0.course h.0.desk h.0.present me.0 h.1 h.2 f.1 f.2))

-- ---- the overflow time and overflow are stored

pub stores_since : {S : Type 0} (slots seat : ℕ) (me : Me S View) (now : ℕ) (st : Step S) → me.0.writes ≡ true → count_of me.0.writer.present ≡ 0 → me.0.writer.closed ≡ false → me.0.writer.owed ≡ 0
    → Allows IsRing slots seat me 3 (λ _. now) (λ _. stored_since st me now)
stores_since slots seat me now st writes quiet is_open none_owed s h count at bits =
    let f = (h.3 seat me.0 at).writer writes in
    let pending = pending-none h.0.course h.0.desk h.0.present me.0.writer h.2 f.2 quiet in
    let none = present-none h.0.course h.0.desk h.0.present me.0.writer f.2 quiet in
    let numbers : AreNumbers (record h.0.course { since = now }) h.0.desk h.0.present = record {
      sound = since-sound h.0.course h.2.sound now pending (sym f.2.owed ∙ none_owed);
      pending = h.2.pending;
      change = h.2.change;
      quiet = h.2.quiet;
      ended = h.2.ended;
    } in
    let new : IsWriterIn (record h.0.course { since = now }) h.0.desk h.0.present (record me.0.writer { since = now }) = record {
      offers = f.2.offers;
      records = f.2.records;
      draft = f.2.draft;
      next = f.2.next;
      tag_draft = f.2.tag_draft;
      next_tag = f.2.next_tag;
      since = refl;
      owed = f.2.owed;
      closed = f.2.closed;
      present_is = f.2.present_is;
      earlier = f.2.earlier;
      read_words = f.2.read_words;
      read_tags = f.2.read_tags;
    } in
    let views = writer_goes h.0 (record h.0.course { since = now }) h.0.desk h.0.present s.views seat me.0 (record me.0.writer { since = now }) (refl, refl, refl)
    (λ r g. reader-since h.0.course h.0.present now r none g) h.3 at writes new in
    (with_since me.0 now, keeps, tt, (record h.0 { course = record h.0.course { since = now } }, store-since s.words h.0.course h.0.desk h.0.present h.1 now, numbers, views), refl)

-- all views, when overflow becomes a later word
present_stored : (past : Past) (views : List View) (seat : ℕ) (v : View) (word : ℕ) (offers : List Offer) (pending change owed exchanges found : ℕ) → AllFit past views → get_elem? views seat ≡ some v → v.writes ≡ true
    → v.writer.closed ≡ false → IsLater past.present word → IsEarlier found past.present
    → AllFit (record past { course = record past.course { offers = offers; pending = pending; change = change; owed = owed }; present = word })
    (slice_set views seat (record v { writer = record v.writer { offers = offers; present = word; owed = owed; exchanges = exchanges; found = found } }))
present_stored past views seat v word offers pending change owed exchanges found fit at writes is_open later before =
    let f = ((fit seat v at).writer writes).2 in
    let new : IsWriterIn (record past.course { offers = offers; pending = pending; change = change; owed = owed }) past.desk word
    (record v.writer { offers = offers; present = word; owed = owed; exchanges = exchanges; found = found }) = record {
      offers = refl;
      records = f.records;
      draft = f.draft;
      next = f.next;
      tag_draft = f.tag_draft;
      next_tag = f.next_tag;
      since = f.since;
      owed = refl;
      closed = f.closed;
      present_is = inl refl;
      earlier = (later_earlier v.writer.overflow past.present word f.earlier.0 later, later_earlier found past.present word before later);
      read_words = f.read_words;
      read_tags = f.read_tags;
    } in
    writer_goes past (record past.course { offers = offers; pending = pending; change = change; owed = owed }) past.desk word views seat v
    (record v.writer { offers = offers; present = word; owed = owed; exchanges = exchanges; found = found }) (refl, refl, refl)
    (λ r g. reader-present past.course past.present word offers pending change owed r (sym f.closed ∙ is_open) later g) fit at writes new

pub stores_lost : {S : Type 0} (slots seat : ℕ) (me : Me S View) (word : ℕ) (o : Offer) (st : Step S) → me.0.writes ≡ true → count_of me.0.writer.present ≡ 0 → me.0.writer.closed ≡ false
    → me.0.writer.owed ≡ 0 → me.0.writer.draft ≡ [] → me.0.writer.tag_draft ≡ [] → length me.0.writer.offers < 2 ^ 30 → me.0.writer.since ≡ o.time
    → fit_twice me.0.hdrsize me.0.len me.0.tags (me.0.writer.offers ++ o ∷ []) ≡ false → count_of word ≡ 1 → change_of word ≡ change_of me.0.writer.present + 1
    → Allows IsRing slots seat me 2 (λ _. word) (λ _. stored_lost o st me word)
stores_lost slots seat me word o st writes quiet is_open none_owed draft tag_draft few since full one next s h count at bits =
    let f = (h.3 seat me.0 at).writer writes in
    let pending = pending-none h.0.course h.0.desk h.0.present me.0.writer h.2 f.2 quiet in
    let owed = sym f.2.owed ∙ none_owed in
    let same = present-same h.0.course h.0.desk h.0.present me.0.writer f.2 quiet in
    let change : change_of word ≡ change_of h.0.present + 1 = next ∙ ap (λ (k : ℕ). change_of k + 1) (sym same) in
    let later : IsLater h.0.present word = record { change = omega arith; count = λ e. absurd (omega arith) } in
    let few' : length h.0.course.offers < 2 ^ 30 = subst (λ (os : List Offer). length os < 2 ^ 30) f.2.offers few in
    let full' : fit_twice h.0.course.hdrsize h.0.course.len h.0.course.tags (h.0.course.offers ++ o ∷ []) ≡ false =
    (λ i. fit_twice (sym f.1.0 i) (sym f.1.1 i) (sym f.1.2 i) (sym f.2.offers i ++ o ∷ [])) ∙ full in
    let still : IsQuiet h.0.course.owed h.0.desk = record { none_owed = owed; draft = sym f.2.draft ∙ draft; tag_draft = sym f.2.tag_draft ∙ tag_draft } in
    let numbers : AreNumbers (first_lost h.0.course o) h.0.desk word = record {
      sound = first-lost-sound h.0.course h.2.sound o pending owed (sym f.2.since ∙ since) full' few';
      pending = one;
      change = change ∙ ap (λ (k : ℕ). k + 1) h.2.change;
      quiet = λ _. still;
      ended = λ _. still;
    } in
    let views : AllFit (record h.0 { course = first_lost h.0.course o; present = word }) (slice_set s.views seat (with_lost me.0 o word)) =
    subst (λ (x : List Offer × ℕ). AllFit (record h.0 { course = first_lost h.0.course o; present = word })
    (slice_set s.views seat (record me.0 { writer = record me.0.writer { offers = x.0; present = word; owed = x.1 } })))
    (λ i. (sym f.2.offers i ++ o ∷ [], sym f.2.owed i))
    (present_stored h.0 s.views seat me.0 word (h.0.course.offers ++ o ∷ []) 1 (h.0.course.change + 1) h.0.course.owed me.0.writer.exchanges me.0.writer.found h.3 at writes is_open later f.2.earlier.1) in (
      with_lost me.0 o word,
      keeps,
      tt,
      (record h.0 { course = first_lost h.0.course o; present = word }, store-present s.words h.0.course h.0.desk h.0.present h.1 word (h.0.course.offers ++ o ∷ []) h.0.course.taken 1 (h.0.course.change + 1) h.0.course.owed, numbers, views),
      refl,
    )

-- ---- the writer's exchanges

pub won_is : (n old new : ℕ) → n ≡ old → either (n == old) new n ≡ new
won_is n old new e = grind (arith, nat_tests)

pub raced_is : (n old new : ℕ) → (n ≡ old → ⊥) → either (n == old) new n ≡ n
raced_is n old new e = grind (arith, nat_tests)

pub same_or : (n old : ℕ) → (n ≡ old) ⊎ (n ≡ old → ⊥)
same_or n old = elim (n == old) as (λ (b : Bool). (n == old) ≡ b → (n ≡ old) ⊎ (n ≡ old → ⊥)) [
  | true ↦ λ e. inl (equal n old e)
  | false ↦ λ e. inr (λ s. differs n old e s)
] refl
  where
    equal : (n old : ℕ) → (n == old) ≡ true → n ≡ old
    equal n old e = grind (arith, nat_tests)

    differs : (n old : ℕ) → (n == old) ≡ false → n ≡ old → ⊥
    differs n old e s = grind (arith, nat_tests)

-- the reader was faster
raced : (past : Past) (ws : List ℕ) (views : List View) (seat : ℕ) (v : View) → AreWords ws past.course past.desk past.present → AllFit past views → get_elem? views seat ≡ some v → v.writes ≡ true
    → AllFit past (slice_set views seat (with_raced v (slice_index ws 2)))
raced past ws views seat v a fit at writes =
    let f = ((fit seat v at).writer writes).2 in
    let new : IsWriterIn past.course past.desk past.present (record v.writer { exchanges = v.writer.exchanges + 1; found = slice_index ws 2; present = slice_index ws 2 }) = record {
      offers = f.offers;
      records = f.records;
      draft = f.draft;
      next = f.next;
      tag_draft = f.tag_draft;
      next_tag = f.next_tag;
      since = f.since;
      owed = f.owed;
      closed = f.closed;
      present_is = inl (sym a.counts.present_is);
      earlier = (f.earlier.0, earlier_self (slice_index ws 2) past.present a.counts.present_is);
      read_words = f.read_words;
      read_tags = f.read_tags;
    } in
    writer_goes past past.course past.desk past.present views seat v (record v.writer { exchanges = v.writer.exchanges + 1; found = slice_index ws 2; present = slice_index ws 2 }) (refl, refl, refl) (λ r g. g) fit at writes new

-- then it took the loss
lifted_is : (course : Course) (desk : Desk) (present : ℕ) (w : WriterView) (found : ℕ) → found ≡ present → (found ≡ w.present → ⊥) → IsWriterIn course desk present w → IsLifted w.present found
lifted_is course desk present w found e differs f = ⊎_elim (λ (s : present ≡ w.present). absurd (differs (e ∙ s))) (λ (l : IsLifted w.present present). subst (IsLifted w.present) (sym e) l) f.present_is

-- how a step on word i goes on, where that word becomes m
abbrev pub Goes : {S : Type 0} → State S View → (i seat : ℕ) → Me S View → ℕ → (ℕ → Me S View → Type 0) → Type 0
Goes {S} s i seat me m then =
    (w : View) × (a : Act S) × Valid s.homes me.1 a × IsRing (stepped s i m seat me.1 w a) × then (slice_index s.words i) (w, carried_after me.1 a)

flush_won : {S : Type 0} (s : State S View) (slots seat : ℕ) (me : Me S View) (old word : ℕ) → IsRing s → get_elem? s.views seat ≡ some me.0 → me.0.writes ≡ true → me.0.writer.closed ≡ false
    → me.0.writer.draft ≡ [] → me.0.writer.tag_draft ≡ [] → me.0.writer.present ≡ old → 0 < count_of old → count_of word ≡ 0 → change_of word ≡ change_of old + 1
    → slice_index s.words 2 ≡ old → Goes s 2 seat me word (exchanged_flush (step slots 2 old word none) me)
flush_won s slots seat me old word h at writes is_open draft tag_draft present_is pos nil next e =
    let f = (h.3 seat me.0 at).writer writes in
    let present : h.0.present ≡ old = sym h.1.counts.present_is ∙ e in
    let pos' : 0 < h.0.course.pending = subst (λ (k : ℕ). 0 < k) (ap count_of (sym present) ∙ h.2.pending) pos in
    let none_owed : h.0.course.owed ≡ 0 = h.2.sound.one_loss pos' in
    let change : change_of word ≡ change_of h.0.present + 1 = next ∙ ap (λ (k : ℕ). change_of k + 1) (sym present) in
    let later : IsLater h.0.present word = record { change = omega arith; count = λ x. absurd (omega arith) } in
    let quiet = h.2.quiet pos' in
    let numbers : AreNumbers (owing h.0.course) h.0.desk word = record {
      sound = owing-sound h.0.course h.2.sound pos';
      pending = nil;
      change = change ∙ ap (λ (k : ℕ). k + 1) h.2.change;
      quiet = λ p. absurd (omega arith);
      ended = λ x. absurd (off (sym is_open ∙ (f.2.closed ∙ x)));
    } in
    let owed : h.0.course.pending ≡ count_of me.0.writer.present = sym h.2.pending ∙ ap count_of (present ∙ sym present_is) in
    let views : AllFit (record h.0 { course = owing h.0.course; present = word }) (slice_set s.views seat (with_exchange (with_owed me.0 word) (slice_index s.words 2))) =
    subst (λ (x : List Offer × ℕ). AllFit (record h.0 { course = owing h.0.course; present = word })
    (slice_set s.views seat (record me.0 { writer = record me.0.writer { offers = x.0; present = word; owed = x.1; exchanges = me.0.writer.exchanges + 1; found = slice_index s.words 2 } })))
    (λ i. (sym f.2.offers i, owed i))
    (present_stored h.0 s.views seat me.0 word h.0.course.offers 0 (h.0.course.change + 1) h.0.course.pending (me.0.writer.exchanges + 1) (slice_index s.words 2) h.3 at writes is_open later (earlier_self (slice_index s.words 2) h.0.present h.1.counts.present_is)) in (
      with_exchange (with_owed me.0 word) (slice_index s.words 2),
      keeps,
      tt,
      (record h.0 { course = owing h.0.course; present = word }, store-present s.words h.0.course h.0.desk h.0.present h.1 word h.0.course.offers h.0.course.taken 0 (h.0.course.change + 1) h.0.course.pending, numbers, views),
      (λ _. refl, λ d. absurd (d e)),
    )

lost_race : {S : Type 0} (s : State S View) (slots seat : ℕ) (me : Me S View) (old : ℕ) → IsRing s → get_elem? s.views seat ≡ some me.0 → me.0.writes ≡ true → me.0.writer.present ≡ old
    → (slice_index s.words 2 ≡ old → ⊥)
    → IsRing (stepped s 2 (slice_index s.words 2) seat me.1 (with_raced me.0 (slice_index s.words 2)) keeps) × IsLifted me.0.writer.present (slice_index s.words 2)
lost_race s slots seat me old h at writes present_is d =
    let f = (h.3 seat me.0 at).writer writes in (
      (h.0, same_words 2 s.words h.0 h.1, h.2, raced h.0 s.words s.views seat me.0 h.1 h.3 at writes),
      lifted_is h.0.course h.0.desk h.0.present me.0.writer (slice_index s.words 2) h.1.counts.present_is (λ x. d (x ∙ present_is)) f.2,
    )

pub exchanges_flush : {S : Type 0} (slots seat : ℕ) (me : Me S View) (old word : ℕ) → me.0.writes ≡ true → me.0.writer.closed ≡ false
    → me.0.writer.draft ≡ [] → me.0.writer.tag_draft ≡ [] → me.0.writer.present ≡ old → 0 < count_of old → count_of word ≡ 0 → change_of word ≡ change_of old + 1
    → Allows IsRing slots seat me 2 (λ n. either (n == old) word n) (exchanged_flush (step slots 2 old word none) me)
exchanges_flush {S} slots seat me old word writes is_open draft tag_draft present_is pos nil next s h count at bits =
    ⊎_elim
    (λ (e : slice_index s.words 2 ≡ old). subst (λ (m : ℕ). Goes s 2 seat me m (exchanged_flush (step slots 2 old word none) me)) (sym (won_is (slice_index s.words 2) old word e))
    (flush_won s slots seat me old word h at writes is_open draft tag_draft present_is pos nil next e))
    (λ (d : slice_index s.words 2 ≡ old → ⊥). subst (λ (m : ℕ). Goes s 2 seat me m (exchanged_flush (step slots 2 old word none) me)) (sym (raced_is (slice_index s.words 2) old word d))
    (let r = lost_race s slots seat me old h at writes present_is d in (with_raced me.0 (slice_index s.words 2), keeps, tt, r.0, (λ e. absurd (d e), λ _. (refl, r.1)))))
    (same_or (slice_index s.words 2) old)

bump_won : {S : Type 0} (s : State S View) (slots seat : ℕ) (me : Me S View) (old word : ℕ) (o : Offer) → IsRing s → get_elem? s.views seat ≡ some me.0 → me.0.writes ≡ true → me.0.writer.closed ≡ false
    → length me.0.writer.offers < 2 ^ 30 → 0 < count_of old → count_of word ≡ count_of old + 1 → change_of word ≡ change_of old
    → slice_index s.words 2 ≡ old → Goes s 2 seat me word (exchanged_bump o (step slots 2 old word none) me)
bump_won s slots seat me old word o h at writes is_open few pos more same e =
    let f = (h.3 seat me.0 at).writer writes in
    let present : h.0.present ≡ old = sym h.1.counts.present_is ∙ e in
    let pos' : 0 < h.0.course.pending = subst (λ (k : ℕ). 0 < k) (ap count_of (sym present) ∙ h.2.pending) pos in
    let few' : length h.0.course.offers < 2 ^ 30 = subst (λ (os : List Offer). length os < 2 ^ 30) f.2.offers few in
    let count : count_of word ≡ count_of h.0.present + 1 = more ∙ ap (λ (k : ℕ). count_of k + 1) (sym present) in
    let change : change_of word ≡ change_of h.0.present = same ∙ ap change_of (sym present) in
    let later : IsLater h.0.present word = record { change = omega arith; count = λ _. omega arith } in
    let quiet = h.2.quiet pos' in
    let numbers : AreNumbers (one_lost h.0.course o) h.0.desk word = record {
      sound = one-lost-sound h.0.course h.2.sound o pos' few';
      pending = count ∙ ap (λ (k : ℕ). k + 1) h.2.pending;
      change = change ∙ h.2.change;
      quiet = λ _. quiet;
      ended = λ _. quiet;
    } in
    let views : AllFit (record h.0 { course = one_lost h.0.course o; present = word }) (slice_set s.views seat (with_exchange (with_lost me.0 o word) (slice_index s.words 2))) =
    subst (λ (x : List Offer × ℕ). AllFit (record h.0 { course = one_lost h.0.course o; present = word })
    (slice_set s.views seat (record me.0 { writer = record me.0.writer { offers = x.0; present = word; owed = x.1; exchanges = me.0.writer.exchanges + 1; found = slice_index s.words 2 } })))
    (λ i. (sym f.2.offers i ++ o ∷ [], sym f.2.owed i))
    (present_stored h.0 s.views seat me.0 word (h.0.course.offers ++ o ∷ []) (h.0.course.pending + 1) h.0.course.change h.0.course.owed (me.0.writer.exchanges + 1) (slice_index s.words 2) h.3 at writes is_open later (earlier_self (slice_index s.words 2) h.0.present h.1.counts.present_is)) in (
      with_exchange (with_lost me.0 o word) (slice_index s.words 2),
      keeps,
      tt,
      (record h.0 { course = one_lost h.0.course o; present = word }, store-present s.words h.0.course h.0.desk h.0.present h.1 word (h.0.course.offers ++ o ∷ []) h.0.course.taken (h.0.course.pending + 1) h.0.course.change h.0.course.owed, numbers, views),
      (λ _. refl, λ d. absurd (d e)),
    )

pub exchanges_bump : {S : Type 0} (slots seat : ℕ) (me : Me S View) (old word : ℕ) (o : Offer) → me.0.writes ≡ true → me.0.writer.closed ≡ false
    → length me.0.writer.offers < 2 ^ 30 → me.0.writer.present ≡ old → 0 < count_of old → count_of word ≡ count_of old + 1 → change_of word ≡ change_of old
    → Allows IsRing slots seat me 2 (λ n. either (n == old) word n) (exchanged_bump o (step slots 2 old word none) me)
exchanges_bump {S} slots seat me old word o writes is_open few present_is pos more same s h count at bits =
    ⊎_elim
    (λ (e : slice_index s.words 2 ≡ old). subst (λ (m : ℕ). Goes s 2 seat me m (exchanged_bump o (step slots 2 old word none) me)) (sym (won_is (slice_index s.words 2) old word e))
    (bump_won s slots seat me old word o h at writes is_open few pos more same e))
    (λ (d : slice_index s.words 2 ≡ old → ⊥). subst (λ (m : ℕ). Goes s 2 seat me m (exchanged_bump o (step slots 2 old word none) me)) (sym (raced_is (slice_index s.words 2) old word d))
    (let r = lost_race s slots seat me old h at writes present_is d in (with_raced me.0 (slice_index s.words 2), keeps, tt, r.0, (λ e. absurd (d e), λ _. (refl, r.1)))))
    (same_or (slice_index s.words 2) old)

-- ---- the end mark is stored

pub stores_end : {S : Type 0} (slots seat : ℕ) (me : Me S View) (st : Step S) → me.0.writes ≡ true → me.0.writer.owed ≡ 0 → me.0.writer.draft ≡ [] → me.0.writer.tag_draft ≡ []
    → Allows IsRing slots seat me 4 (λ _. 1) (λ _. stored_end st me 1)
stores_end slots seat me st writes none_owed draft tag_draft s h count at bits =
    let f = (h.3 seat me.0 at).writer writes in
    let still : IsQuiet h.0.course.owed h.0.desk = record { none_owed = sym f.2.owed ∙ none_owed; draft = sym f.2.draft ∙ draft; tag_draft = sym f.2.tag_draft ∙ tag_draft } in
    let numbers : AreNumbers (record h.0.course { ended = true }) h.0.desk h.0.present = record {
      sound = end-sound h.0.course h.2.sound;
      pending = h.2.pending;
      change = h.2.change;
      quiet = h.2.quiet;
      ended = λ _. still;
    } in
    let new : IsWriterIn (record h.0.course { ended = true }) h.0.desk h.0.present (record me.0.writer { closed = true }) = record {
      offers = f.2.offers;
      records = f.2.records;
      draft = f.2.draft;
      next = f.2.next;
      tag_draft = f.2.tag_draft;
      next_tag = f.2.next_tag;
      since = f.2.since;
      owed = f.2.owed;
      closed = refl;
      present_is = f.2.present_is;
      earlier = f.2.earlier;
      read_words = f.2.read_words;
      read_tags = f.2.read_tags;
    } in
    let views = writer_goes h.0 (record h.0.course { ended = true }) h.0.desk h.0.present s.views seat me.0 (record me.0.writer { closed = true }) (refl, refl, refl)
    (λ r g. reader-end h.0.course h.0.present r g) h.3 at writes new in
    (with_closed me.0, keeps, tt, (record h.0 { course = record h.0.course { ended = true } }, store-end s.words h.0.course h.0.desk h.0.present h.1, numbers, views), refl)
