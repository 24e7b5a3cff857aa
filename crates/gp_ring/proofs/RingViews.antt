-- What the seats of a ring know stays so, when either of them goes on.
use Rattle.std.proofs.Common.{◌≡◌, ◌≢◌, ◌⊎◌, ℕ, zero, suc, ◌+◌, ◌<◌, ◌≤◌, List, [], ◌∷◌, ◌++◌, length, true, false, true≢false, refl, ap, sym, subst, ◌∙◌, inl, inr, ⊎_elim, length-append, arith}
use Rattle.std.specs.Prelude.{slice_set}
use mathlib.Core.Option.{some, some-ne-none, some-injective}
use lib.ListN.{get_elem?}
use Rattle.std.proofs.lemmas.List.{append_assoc, nil_from_length}
use Rattle.atomic_table.proofs.Lists.{at_set}
use Rattle.gp_layout.specs.Words.{count_of, change_of}
use Rattle.gp_ring.specs.Records.{Offer}
use Rattle.gp_ring.specs.Course.{Course}
use Rattle.gp_ring.specs.kept.Views.{IsLifted}
use Rattle.gp_ring.specs.kept.RingRule.{Desk, Past, IsWriterIn, IsReaderIn, IsEarlier, IsStanding, IsSizedAs, Fits, AllFit}
use Rattle.gp_ring.specs.declared.between.view.View.{View}
use Rattle.gp_ring.specs.declared.between.view.WriterView.{WriterView}
use Rattle.gp_ring.specs.declared.between.view.ReaderView.{ReaderView}
use Rattle.gp_ring.proofs.Tracing.{behind-front}

pub off : false ≡ true → ⊥
off e = true≢false (sym e)

-- ---- lists of views

pub at_end : (l : List View) (a b : View) (j : ℕ) → get_elem? (l ++ a ∷ []) j ≡ some b → (get_elem? l j ≡ some b) ⊎ ((j ≡ length l) × (a ≡ b))
at_end [] a b zero e = inr (refl, some-injective a b e)
at_end [] a b (suc j) e = absurd (some-ne-none b (sym e))
at_end (x ∷ l) a b zero e = inl e
at_end (x ∷ l) a b (suc j) e = ⊎_elim (λ t. inl t) (λ t. inr (ap suc t.0, t.1)) (at_end l a b j e)

-- one seat has a new view
pub all_set : (G : ℕ → View → Type 0) (views : List View) (seat : ℕ) (w : View) → ((j : ℕ) (u : View) → j ≢ seat → get_elem? views j ≡ some u → G j u) → G seat w
    → (j : ℕ) (u : View) → get_elem? (slice_set views seat w) j ≡ some u → G j u
all_set G views seat w others mine j u e =
    ⊎_elim
    (λ (x : (j ≡ seat) × (w ≡ u)). subst (λ (y : ℕ × View). G y.0 y.1) (λ i. (sym x.0 i, x.1 i)) mine)
    (λ (x : (j ≢ seat) × (get_elem? views j ≡ some u)). others j u x.0 x.1)
    (at_set views seat j w u e)

-- another seat isn't the writer's, and another one isn't the reader's
pub no_writer : (past : Past) (seat j : ℕ) (u : View) → seat ≡ past.writer → j ≢ seat → Fits past j u → u.writes ≡ true → ⊥
no_writer past seat j u is apart fits w = apart ((fits.writer w).0 ∙ sym is)

pub no_reader : (past : Past) (seat j : ℕ) (u : View) → seat ≡ past.reader → j ≢ seat → Fits past j u → u.reads ≡ true → ⊥
no_reader past seat j u is apart fits r = apart ((fits.reader r).0 ∙ sym is)

-- the sizes stay
abbrev pub SameSizes : Course → Course → Type 0
SameSizes c d = (c.hdrsize ≡ d.hdrsize) × (c.len ≡ d.len) × (c.tags ≡ d.tags)

sized : (c d : Course) (v : View) → SameSizes c d → IsSizedAs c v → IsSizedAs d v
sized c d v s z = (z.0 ∙ s.0, z.1 ∙ s.1, z.2 ∙ s.2)

-- all views, when the writer goes on
pub writer_goes : (past : Past) (course : Course) (desk : Desk) (present : ℕ) (views : List View) (seat : ℕ) (v : View) (writer : WriterView)
    → SameSizes past.course course → ((r : ReaderView) → IsReaderIn past.course past.present r → IsReaderIn course present r)
    → AllFit past views → get_elem? views seat ≡ some v → v.writes ≡ true → IsWriterIn course desk present writer
    → AllFit (record past { course = course; desk = desk; present = present }) (slice_set views seat (record v { writer = writer }))
writer_goes past course desk present views seat v writer same stays fit at writes new =
    let f = (fit seat v at).writer writes in
    all_set (Fits (record past { course = course; desk = desk; present = present })) views seat (record v { writer = writer })
    (λ j u apart there. record {
      writer = λ w. absurd (no_writer past seat j u f.0 apart (fit j u there) w);
      reader = λ r. (let g = (fit j u there).reader r in (g.0, sized past.course course u same g.1, stays u.reader g.2));
    })
    (record {
      writer = λ _. (f.0, sized past.course course v same f.1, new);
      reader = λ r. (let g = (fit seat v at).reader r in (g.0, sized past.course course v same g.1, stays v.reader g.2));
    })

-- all views, when the reader goes on
pub reader_goes : (past : Past) (course : Course) (present : ℕ) (views : List View) (seat : ℕ) (v : View) (reader : ReaderView)
    → SameSizes past.course course → ((w : WriterView) → IsWriterIn past.course past.desk past.present w → IsWriterIn course past.desk present w)
    → AllFit past views → get_elem? views seat ≡ some v → v.reads ≡ true → IsReaderIn course present reader
    → AllFit (record past { course = course; present = present }) (slice_set views seat (record v { reader = reader }))
reader_goes past course present views seat v reader same stays fit at reads new =
    let f = (fit seat v at).reader reads in
    all_set (Fits (record past { course = course; present = present })) views seat (record v { reader = reader })
    (λ j u apart there. record {
      writer = λ w. (let g = (fit j u there).writer w in (g.0, sized past.course course u same g.1, stays u.writer g.2));
      reader = λ r. absurd (no_reader past seat j u f.0 apart (fit j u there) r);
    })
    (record {
      writer = λ w. (let g = (fit seat v at).writer w in (g.0, sized past.course course v same g.1, stays v.writer g.2));
      reader = λ _. (f.0, sized past.course course v same f.1, new);
    })

-- ---- the reader's knowledge, when the writer goes on

none_stands : (present overflow : ℕ) → count_of present ≡ 0 → IsStanding present overflow → ⊥
none_stands present overflow z s = let p = s.some in let e : count_of present ≡ count_of overflow = ap count_of s.same in omega arith

-- a record lies in the ring
pub reader-more : (course : Course) (present : ℕ) (o : Offer) (offers : List Offer) (owed : ℕ) (r : ReaderView) → count_of present ≡ 0 → course.ended ≡ false → IsReaderIn course present r
    → IsReaderIn (record course { offers = offers; unread = course.unread ++ o ∷ []; owed = owed }) present r
reader-more course present o offers owed r quiet is_open f = record {
  taken = f.taken;
  pulled = f.pulled;
  ahead = (f.ahead.0 ++ o ∷ [], sym (append_assoc r.ahead f.ahead.0 (o ∷ [])) ∙ ap (λ (os : List Offer). os ++ o ∷ []) f.ahead.1);
  due = f.due;
  due_tags = f.due_tags;
  earlier = f.earlier;
  found_earlier = f.found_earlier;
  seen = λ s _. absurd (none_stands present r.overflow quiet s);
  timed = λ s _. absurd (none_stands present r.overflow quiet s);
  end_found = f.end_found;
  last = f.last;
  last_seen = λ e _. absurd (off (sym is_open ∙ (f.last e).0));
  over = λ e. absurd (off (sym is_open ∙ (f.over e).0));
}

-- the overflow time is set
pub reader-since : (course : Course) (present now : ℕ) (r : ReaderView) → count_of present ≡ 0 → IsReaderIn course present r → IsReaderIn (record course { since = now }) present r
reader-since course present now r quiet f = record {
  taken = f.taken;
  pulled = f.pulled;
  ahead = f.ahead;
  due = f.due;
  due_tags = f.due_tags;
  earlier = f.earlier;
  found_earlier = f.found_earlier;
  seen = f.seen;
  timed = λ s _. absurd (none_stands present r.overflow quiet s);
  end_found = f.end_found;
  last = f.last;
  last_seen = f.last_seen;
  over = f.over;
}

-- the end mark is stored
pub reader-end : (course : Course) (present : ℕ) (r : ReaderView) → IsReaderIn course present r → IsReaderIn (record course { ended = true }) present r
reader-end course present r f = record {
  taken = f.taken;
  pulled = f.pulled;
  ahead = f.ahead;
  due = f.due;
  due_tags = f.due_tags;
  earlier = f.earlier;
  found_earlier = f.found_earlier;
  seen = f.seen;
  timed = f.timed;
  end_found = λ _. refl;
  last = λ e. (refl, (f.last e).1);
  last_seen = f.last_seen;
  over = λ e. (let o = f.over e in (refl, o.1, o.2));
}

pub earlier_self : (a b : ℕ) → a ≡ b → IsEarlier a b
earlier_self a b e = let c : change_of a ≡ change_of b = ap change_of e in let d : count_of a ≡ count_of b = ap count_of e in record { change = omega arith; count = λ _. omega arith }

-- a later overflow word
pub record IsLater (before now : ℕ) : Type 0 where
  pub change : change_of before ≤ change_of now
  pub count : change_of before ≡ change_of now → count_of before < count_of now

pub later_earlier : (seen present now : ℕ) → IsEarlier seen present → IsLater present now → IsEarlier seen now
later_earlier seen present now e l = let a = e.change in let b = l.change in record {
  change = omega arith;
  count = λ s. (let x : change_of seen ≡ change_of present = omega arith in let y : change_of present ≡ change_of now = omega arith in let p = e.count x in let q = l.count y in omega arith);
}

pub later_differs : (seen present now : ℕ) → IsEarlier seen present → IsLater present now → now ≡ seen → ⊥
later_differs seen present now e l s =
    let a = e.change in
    let b = l.change in
    let c : change_of now ≡ change_of seen = ap change_of s in
    let d : count_of now ≡ count_of seen = ap count_of s in
    let x : change_of seen ≡ change_of present = omega arith in
    let y : change_of present ≡ change_of now = omega arith in
    let p = e.count x in
    let q = l.count y in
    omega arith

-- overflow becomes a later word, by the writer
pub reader-present : (course : Course) (present now : ℕ) (offers : List Offer) (pending change owed : ℕ) (r : ReaderView) → course.ended ≡ false → IsLater present now → IsReaderIn course present r
    → IsReaderIn (record course { offers = offers; pending = pending; change = change; owed = owed }) now r
reader-present course present now offers pending change owed r is_open later f =
    let differs : now ≡ r.overflow → ⊥ = later_differs r.overflow present now f.earlier later in
    record {
      taken = f.taken;
      pulled = f.pulled;
      ahead = f.ahead;
      due = f.due;
      due_tags = f.due_tags;
      earlier = later_earlier r.overflow present now f.earlier later;
      found_earlier = later_earlier r.found present now f.found_earlier later;
      seen = λ s _. absurd (differs s.same);
      timed = λ s _. absurd (differs s.same);
      end_found = f.end_found;
      last = λ e. absurd (off (sym is_open ∙ (f.last e).0));
      last_seen = f.last_seen;
      over = λ e. absurd (off (sym is_open ∙ (f.over e).0));
    }

-- ---- the writer's knowledge, when the reader goes on

-- a batch is taken
pub writer-batch : (course : Course) (desk : Desk) (present : ℕ) (ahead rest taken : List Offer) (w : WriterView) → ahead ++ rest ≡ course.unread → IsWriterIn course desk present w
    → IsWriterIn (record course { taken = taken; pulled = course.pulled ++ ahead; unread = rest }) desk present w
writer-batch course desk present ahead rest taken w e f =
    let m = behind-front course.len 0 course.pulled ahead in
    let l = length-append course.pulled ahead in
    let r = f.read_words in
    let t = f.read_tags in
    record {
      offers = f.offers;
      records = f.records ∙ ap (λ (os : List Offer). course.pulled ++ os) (sym e) ∙ sym (append_assoc course.pulled ahead rest);
      draft = f.draft;
      next = f.next;
      tag_draft = f.tag_draft;
      next_tag = f.next_tag;
      since = f.since;
      owed = f.owed;
      closed = f.closed;
      present_is = f.present_is;
      earlier = f.earlier;
      read_words = omega arith;
      read_tags = omega arith;
    }

-- the loss is taken
pub writer-lifted : (course : Course) (desk : Desk) (present now : ℕ) (taken : List Offer) (pending change : ℕ) (w : WriterView)
    → 0 < count_of present → count_of now ≡ 0 → change_of now ≡ change_of present + 1 → IsWriterIn course desk present w
    → IsWriterIn (record course { taken = taken; pending = pending; change = change }) desk now w
writer-lifted course desk present now taken pending change w pos none next f = record {
  offers = f.offers;
  records = f.records;
  draft = f.draft;
  next = f.next;
  tag_draft = f.tag_draft;
  next_tag = f.next_tag;
  since = f.since;
  owed = f.owed;
  closed = f.closed;
  present_is = ⊎_elim
      (λ (e : present ≡ w.present). inr (subst (λ (k : ℕ). 0 < count_of k) e pos, none, next ∙ ap (λ (k : ℕ). change_of k + 1) e))
      (λ (l : IsLifted w.present present). (let z : count_of present ≡ 0 = l.1 in absurd (omega arith)))
      f.present_is;
  earlier = (let l : IsLater present now = record { change = omega arith; count = λ x. absurd (omega arith) } in (later_earlier w.overflow present now f.earlier.0 l, later_earlier w.found present now f.earlier.1 l));
  read_words = f.read_words;
  read_tags = f.read_tags;
}

-- what is taken as a whole
pub none_left : (ahead rest unread : List Offer) → ahead ++ rest ≡ unread → ahead ≡ unread → rest ≡ []
none_left ahead rest unread e s =
    let a : length ahead + length rest ≡ length unread = sym (length-append ahead rest) ∙ ap length e in
    let b : length ahead ≡ length unread = ap length s in
    nil_from_length rest (omega arith)
