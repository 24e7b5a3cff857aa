-- What an act on what was looked at leaves of the reader.
use Rattle.std.proofs.Common.{◌≡◌, ℕ, ◌+◌, ◌<◌, ◌≤◌, Bool, true, false, List, [], ◌∷◌, ◌++◌, map, length, refl, ap, sym, subst, ◌∙◌, append-nil, length-append, arith}
use Rattle.std.specs.Prelude.{nat_lt, ◌==◌, if◌then◌else◌}
use Rattle.std.specs.List.{flat_map}
use Rattle.std.proofs.lemmas.List.{nil_from_length}
use Rattle.std.proofs.lemmas.Bool.Decides.{nat_tests}
use Rattle.atomic_table.specs.Table.{Me}
use Rattle.atomic_table.specs.Seated.{TableId}
use Rattle.gp_layout.specs.Words.{words_of, tags_of, count_of}
use Rattle.gp_ring.specs.Records.{Offer, RingRecord}
use Rattle.gp_ring.specs.PlainRing.{Found, Batch, Taken, Raced, Nothing, End, piece_for}
use Rattle.gp_ring.specs.Counts.{behind_all}
use Rattle.gp_ring.specs.Course.{loss_offer, records_for}
use Rattle.gp_ring.specs.TwoEnds.{ReaderEnd, Acts, acted_by, acted, is_ahead, has_loss}
use Rattle.gp_ring.specs.kept.Views.{with_due, with_due_tags, with_batch, with_time, with_loss, without_loss}
use Rattle.gp_ring.specs.kept.Halves.{reader_end, IsAt, IsReading, HasSeen}
use Rattle.gp_ring.specs.declared.between.view.View.{View}
use Rattle.gp_ring.specs.declared.between.steps.Sizes.{Sizes}
use Rattle.gp_ring.proofs.CourseLaws.{for-append, for-loss}
use Rattle.gp_ring.proofs.Tracing.{behind-append}

lt_yes : (a b : ℕ) → a < b → nat_lt a b ≡ true
lt_yes a b h = grind (arith, nat_tests)

lt_no : (a b : ℕ) → b ≤ a → nat_lt a b ≡ false
lt_no a b h = grind (arith, nat_tests)

equal : (a b : ℕ) → a ≡ b → (a == b) ≡ true
equal a b e = grind (arith, nat_tests)

differs : (a b : ℕ) → (a ≡ b → ⊥) → (a == b) ≡ false
differs a b e = grind (arith, nat_tests)

-- the view after a batch
abbrev pub with_taken : View → View
with_taken v = with_batch (with_due_tags (with_due v []) [])

acted-is : (old : ReaderEnd) (records : List Offer) (time found : ℕ) (a l w : Bool) → is_ahead old ≡ a → has_loss old ≡ l → (found == old.overflow) ≡ w
    → acted old records time found ≡ acted_by a l w old records time found
acted-is old records time found a l w p q e = λ i. acted_by (p i) (q i) (e i) old records time found

module _ (table : TableId) (v : View) (hand : Found) (r end overflow w : ℕ) (s : HasSeen v end overflow w) (read_tags : tags_of r ≡ length v.reader.pulled) where
  pub ahead-count : tags_of w ≡ tags_of r + length v.reader.ahead
  ahead-count = let t = s.seen.tags in let l = length-append v.reader.pulled v.reader.ahead in omega arith

  pub none-ahead : tags_of w ≤ tags_of r → v.reader.ahead ≡ []
  none-ahead h = let c = ahead-count in nil_from_length v.reader.ahead (omega arith)

  acts-so : (new : ReaderEnd) → new.ring ≡ (reader_end table v true hand).ring → new.loads ≡ v.reader.loads → new.looked ≡ false
      → new ≡ acted (reader_end table v true hand) v.reader.ahead new.time new.found → Acts (reader_end table v true hand) new
  acts-so new g l k e = record {
    records = v.reader.ahead;
    whole = s.seen.whole;
    counted = (let t = s.seen.tags in let l = length-append v.reader.pulled v.reader.ahead in let x : tags_of v.reader.written ≡ tags_of w = ap tags_of s.written_is in omega arith);
    mark = (let m = s.end_most in let x = s.end_is in omega arith);
    place = λ n. ap words_of s.written_is ∙ s.seen.words ∙ ap (λ (os : List Offer). behind_all v.len 0 (v.reader.pulled ++ os)) n ∙ ap (behind_all v.len 0) (append-nil v.reader.pulled);
    after = e;
    ring = g;
    loads = l;
    looked = k;
  }

  ahead_is : tags_of r < tags_of w → is_ahead (reader_end table v true hand) ≡ true
  ahead_is h = let x : tags_of v.reader.written ≡ tags_of w = ap tags_of s.written_is in lt_yes (length v.reader.pulled) (tags_of v.reader.written) (omega arith)

  none_is : tags_of w ≤ tags_of r → is_ahead (reader_end table v true hand) ≡ false
  none_is h = let x : tags_of v.reader.written ≡ tags_of w = ap tags_of s.written_is in lt_no (length v.reader.pulled) (tags_of v.reader.written) (omega arith)

  loss_is : 0 < count_of overflow → has_loss (reader_end table v true hand) ≡ true
  loss_is h = lt_yes 0 (count_of v.reader.overflow) (subst (λ (k : ℕ). 0 < count_of k) (sym s.overflow_is) h)

  no_loss_is : count_of overflow ≤ 0 → has_loss (reader_end table v true hand) ≡ false
  no_loss_is h = lt_no 0 (count_of v.reader.overflow) (subst (λ (k : ℕ). count_of k ≤ 0) (sym s.overflow_is) h)

  -- a batch is taken
  pub batch-acts : (v2 : View) (words tag_words : List ℕ) → tags_of r < tags_of w → v2 ≡ with_taken v → words ≡ flat_map (λ (o : Offer). (piece_for o).words) v.reader.ahead → tag_words ≡ map (λ (o : Offer). o.tag) v.reader.ahead
      → Acts (reader_end table v true hand) (reader_end table v2 false (Batch words tag_words))
  batch-acts v2 words tag_words some e we le = subst (λ (x : View). Acts (reader_end table v true hand) (reader_end table x false (Batch words tag_words))) (sym e)
      (acts-so (reader_end table (with_taken v) false (Batch words tag_words)) refl refl refl
      ((λ i. record (reader_end table v false (Batch (we i) (le i))) {
        taken = for-append v.hdrsize v.reader.taken v.reader.ahead i;
        read_words = (sym s.seen.words ∙ ap words_of (sym s.written_is)) i;
        read_tags = (sym s.seen.tags ∙ ap tags_of (sym s.written_is)) i;
      })
      ∙ sym (acted-is (reader_end table v true hand) v.reader.ahead v.reader.time v.reader.found true (has_loss (reader_end table v true hand)) (v.reader.found == v.reader.overflow) (ahead_is some) refl refl)))

  -- a loss is taken
  pub loss-acts : (v2 : View) (time found : ℕ) → tags_of w ≤ tags_of r → 0 < count_of overflow → found ≡ overflow → v2 ≡ with_loss (with_time v time) found
      → Acts (reader_end table v true hand) (reader_end table v2 false (Taken (count_of overflow) time))
  loss-acts v2 time found none some won e = subst (λ (x : View). Acts (reader_end table v true hand) (reader_end table x false (Taken (count_of overflow) time))) (sym e)
      (acts-so (reader_end table (with_loss (with_time v time) found) false (Taken (count_of overflow) time)) refl refl refl
      ((λ i. record (reader_end table (without_loss (with_time v time) found) false (Taken (count_of (sym s.overflow_is i)) time)) {
        taken = (for-append v.hdrsize v.reader.taken (loss_offer v.hdrsize (count_of v.reader.overflow) time ∷ [])
            ∙ ap (λ (x : RingRecord). records_for v.hdrsize v.reader.taken ++ x ∷ []) (for-loss v.hdrsize (count_of v.reader.overflow) time)) i;
      })
      ∙ sym (acted-is (reader_end table v true hand) v.reader.ahead time found false true true (none_is none) (loss_is some) (equal found v.reader.overflow (won ∙ sym s.overflow_is)))))

  -- overflow is another word
  pub race-acts : (v2 : View) (time found : ℕ) → tags_of w ≤ tags_of r → 0 < count_of overflow → (found ≡ overflow → ⊥) → v2 ≡ without_loss (with_time v time) found
      → Acts (reader_end table v true hand) (reader_end table v2 false (Raced overflow found))
  race-acts v2 time found none some lost e = subst (λ (x : View). Acts (reader_end table v true hand) (reader_end table x false (Raced overflow found))) (sym e)
      (acts-so (reader_end table (without_loss (with_time v time) found) false (Raced overflow found)) refl refl refl
      ((λ i. reader_end table (without_loss (with_time v time) found) false (Raced (sym s.overflow_is i) found))
      ∙ sym (acted-is (reader_end table v true hand) v.reader.ahead time found false true false (none_is none) (loss_is some) (differs found v.reader.overflow (λ x. lost (x ∙ s.overflow_is))))))

  -- there was nothing
  pub none-acts : (b : Bool) → tags_of w ≤ tags_of r → count_of overflow ≤ 0 → (end == 1) ≡ b
      → Acts (reader_end table v true hand) (reader_end table v false (if b then End else Nothing))
  none-acts b none no_loss e =
      let is : (v.reader.end == 1) ≡ b = ap (λ (k : ℕ). k == 1) s.end_is ∙ e in
      acts-so (reader_end table v false (if b then End else Nothing)) refl refl refl
      ((λ i. reader_end table v false (if sym is i then End else Nothing))
      ∙ sym (acted-is (reader_end table v true hand) v.reader.ahead v.reader.time v.reader.found false false (v.reader.found == v.reader.overflow) (none_is none) (no_loss_is no_loss) refl))

  pub over-then : tags_of w ≤ tags_of r → count_of overflow ≤ 0 → end ≡ 1 → v.reader.is_over ≡ true
  over-then none no_loss e = s.over e (omega arith) (none-ahead none)

-- what is ahead lies within a round
pub words-within : (v : View) (end overflow w : ℕ) → HasSeen v end overflow w → behind_all v.len (behind_all v.len 0 v.reader.pulled) v.reader.ahead ≤ behind_all v.len 0 v.reader.pulled + v.len
words-within v end overflow w s =
    let e = behind-append v.len 0 v.reader.pulled v.reader.ahead in
    let b = s.seen.words in
    let c = s.seen.words_within in
    omega arith

-- the reader's `r` has the counts behind what it took
pub goes-reading : (table seat seat2 : TableId) (me me2 : Me Unit View) (v2 : View) (sizes : Sizes) (r : ℕ) → IsReading table seat me sizes r → seat2 ≡ seat → me2 ≡ (v2, me.1)
    → me.0.hdrsize ≡ v2.hdrsize → me.0.len ≡ v2.len → me.0.tags ≡ v2.tags → me.0.reads ≡ v2.reads → me.0.reader.pulled ≡ v2.reader.pulled → IsReading table seat2 me2 sizes r
goes-reading table seat seat2 me me2 v2 sizes r k s e h l t rd p =
    subst (λ (x : TableId × Me Unit View). IsReading table x.0 x.1 sizes r) (λ i. (sym s i, sym e i)) (record {
      seated = subst (λ (x : ℕ × ℕ × ℕ). IsAt table seat x.0 x.1 x.2 sizes) (λ i. (h i, l i, t i)) k.seated;
      reads = sym rd ∙ k.reads;
      read_words = k.read_words ∙ (λ i. behind_all (l i) 0 (p i));
      read_tags = k.read_tags ∙ ap length p;
    })

pub batch-reading : (table seat seat2 : TableId) (me me2 : Me Unit View) (sizes : Sizes) (r r2 end overflow w : ℕ) → IsReading table seat me sizes r → HasSeen me.0 end overflow w
    → seat2 ≡ seat → me2 ≡ (with_taken me.0, me.1) → words_of r2 ≡ words_of w → tags_of r2 ≡ tags_of w → IsReading table seat2 me2 sizes r2
batch-reading table seat seat2 me me2 sizes r r2 end overflow w k s t e rw rt =
    subst (λ (x : TableId × Me Unit View). IsReading table x.0 x.1 sizes r2) (λ i. (sym t i, sym e i)) (record {
      seated = k.seated;
      reads = k.reads;
      read_words = rw ∙ s.seen.words;
      read_tags = rt ∙ s.seen.tags;
    })
