-- What a read of a ring that nobody writes to meanwhile takes, and what reads take until one finds the end.
use Rattle.std.proofs.Common.{◌≡◌, ◌<◌, ◌≤◌, ◌+◌, ◌-◌, ℕ, zero, suc, Bool, true, false, true≢false, not, ◌&&◌, ◌||◌, ◌==◌, nat_lt, List, [], ◌∷◌, ◌++◌, map, length, take, drop, refl, sym, ap, ◌∙◌, subst, arith, eq-eqb, if◌then◌else◌}
use Rattle.std.specs.Prelude.{min}
use Rattle.std.specs.List.{AllByRecursion}
use Rattle.std.proofs.lemmas.Bool.{ltb-true, ltb-false}
use Rattle.std.proofs.lemmas.List.{append_assoc, append-nil, length-map, length-append, length-drop}
use Rattle.std.proofs.Math.Seq.{take-length}
use Rattle.gp_ring.specs.Records.{Offer, RingRecord, Loss, Covers, head}
use Rattle.gp_ring.specs.PlainRing as plain
use Rattle.gp_ring.specs.PlainRing.{PlainRing, Piece, Seen, Found, record_of, looked, acted, closed, batch, records_taken, is_unchanged, with_found, without_batch, without_loss, unread_records, pending_records, has_more}
use Rattle.gp_ring.specs.Follows.{Follows, samples}
use Rattle.gp_ring.specs.Calls.{Act}
use Rattle.gp_ring.specs.Shown.{Shows}
use Rattle.gp_ring.specs.declared.taken.Taken.{Taken}
use Rattle.gp_ring.specs.declared.taken.Taken.TheVariants.{Batch, Lost, Raced, Nothing, End}
use Rattle.gp_ring.proofs.Reading.{act-follows, look-follows, close-follows}
use Rattle.gp_layout.specs.Words.{overflow_word}
use Rattle.gp_cpu.specs.Records.{ring_record_of}
use Rattle.gp_cpu.specs.Batch.{AreRecords, records_in}
use Rattle.gp_cpu.specs.BatchLaw.{IsWhole, words_of_pieces, tags_of_pieces}
use Rattle.gp_cpu.proofs.Pieces.{pieces_are_batches}
use Rattle.gp_cpu.proofs.Staying.{pieces_stay_whole}
use Rattle.gp_samples.specs.RunRing.{IsReadable, is_end, taken_to_end}

no_pieces : (ps : List Piece) → length ps ≡ 0 → ps ≡ []
no_pieces [] e = refl
no_pieces (p ∷ ps) e = absurd (omega arith)

drop_all : (ps : List Piece) (n : ℕ) → length ps ≤ n → drop n ps ≡ []
drop_all ps n all = no_pieces (drop n ps) (let e = length-drop n ps in omega arith)

take_all : (n : ℕ) (ps : List Piece) → n ≡ length ps → take n ps ≡ ps
take_all n ps e = ap (λ k. take k ps) e ∙ take-length ps

-- what a read finds, by whether records are unread, a loss is pending, the overflow word is the one seen, and the end is marked
abbrev found_by : PlainRing → Bool → Bool → Bool → Bool → Found
found_by ring ahead pends same ended =
    if ahead then plain.Batch (words_of_pieces (take (ring.written_tags - ring.read_tags) ring.unread)) (tags_of_pieces (take (ring.written_tags - ring.read_tags) ring.unread))
    else if pends then
    (if same then plain.Taken ring.pending ring.since
    else plain.Raced (overflow_word ring.change ring.pending) (overflow_word ring.change ring.pending))
    else if ended then plain.End
    else plain.Nothing

-- and what it takes
abbrev taken_by : PlainRing → Bool → Bool → List RingRecord
taken_by ring ahead lost =
    if ahead then map (record_of ring.hdrsize) (take (ring.written_tags - ring.read_tags) ring.unread)
    else if lost then Loss ring.pending ring.since ∷ []
    else []

abbrev seen_now : PlainRing → Seen
seen_now ring = record { ended = ring.ended; pending = ring.pending; change = ring.change; words = ring.written_words; tags = ring.written_tags }

-- and what it leaves
abbrev left_by : PlainRing → Bool → Bool → Found → PlainRing
left_by ring ahead lost answer =
    with_found (if ahead then without_batch (looked ring) (seen_now ring) else if lost then without_loss (looked ring) else looked ring) answer

-- the overflow word is the one that was seen
abbrev unchanged : PlainRing → Bool
unchanged ring = is_unchanged (looked ring) (seen_now ring)

always_unchanged : (ring : PlainRing) → unchanged ring ≡ true
always_unchanged ring = λ i. eq-eqb ring.change ring.change refl i && eq-eqb ring.pending ring.pending refl i

lost_true : (same : Bool) → same ≡ true → (true && same) ≡ true
lost_true same e = e

-- how many reads it takes until the end is found
abbrev pub needed : PlainRing → ℕ
needed ring = min 1 (length ring.unread) + min 1 ring.pending + 1

-- A read that takes something.
pub record Takes (ring next : PlainRing) (records : List RingRecord) : Type 0 where
  pub fewer : needed next < needed ring
  pub some : 1 ≤ length records

-- One that finds nothing any more.
pub record FindsNone (ring : PlainRing) (records : List RingRecord) : Type 0 where
  pub none_unread : ring.unread ≡ []
  pub none_pending : ring.pending ≡ 0
  pub none : records ≡ []

module _ (ring : PlainRing) (readable : IsReadable ring) where
  abbrev ahead : Bool
  ahead = nat_lt ring.read_tags ring.written_tags

  abbrev pends : Bool
  pends = nat_lt 0 ring.pending

  all_taken : take (ring.written_tags - ring.read_tags) ring.unread ≡ ring.unread
  all_taken = take_all (ring.written_tags - ring.read_tags) ring.unread (let e = readable.counted in omega arith)

  -- what a batch shows may be added, and adds what the read takes
  abbrev pub AddsBatch : List RingRecord → Taken → Type 0
  AddsBatch records (Batch w t) = AreRecords w.now t.now × (map ring_record_of (records_in w.now t.now) ≡ records)
  AddsBatch records (Lost n t) = Unit {0}
  AddsBatch records (Raced w f) = Unit {0}
  AddsBatch records Nothing = Unit {0}
  AddsBatch records End = Unit {0}

  adds_batch : (a p same ended : Bool) (found : Taken) → Shows (found_by ring a p same ended) found → AddsBatch (taken_by ring a (p && same)) found
  adds_batch true p same ended (Batch w t) shows =
      let whole = pieces_are_batches ring.unread readable.whole in
      let words : w.now ≡ words_of_pieces ring.unread = shows.0 ∙ ap words_of_pieces all_taken in
      let tags : t.now ≡ tags_of_pieces ring.unread = shows.1 ∙ ap tags_of_pieces all_taken in (
        subst (λ l. AreRecords l t.now) (sym words) (subst (AreRecords (words_of_pieces ring.unread)) (sym tags) whole.may_add),
        (λ i. map ring_record_of (records_in (words i) (tags i)))
            ∙ whole.adds
            ∙ (λ i. map (record_of (sym readable.header i)) (sym all_taken i)),
      )
  adds_batch false true true ended (Batch w t) shows = absurd shows
  adds_batch false true false ended (Batch w t) shows = absurd shows
  adds_batch false false same true (Batch w t) shows = absurd shows
  adds_batch false false same false (Batch w t) shows = absurd shows
  adds_batch a p same ended (Lost n t) shows = tt
  adds_batch a p same ended (Raced w f) shows = tt
  adds_batch a p same ended Nothing shows = tt
  adds_batch a p same ended End shows = tt

  pub batch_adds : (found : Taken) → Shows (acted (looked ring)).hand found → AddsBatch (records_taken (looked ring)) found
  batch_adds found shows = adds_batch ahead pends (unchanged ring) ring.ended found shows

  -- A read takes something unless nothing is unread and no loss is pending.
  takes_by : (a p s ended : Bool) → ahead ≡ a → pends ≡ p → s ≡ true → (a || p) ≡ true → (answer : Found) → Takes ring (left_by ring a (p && s) answer) (taken_by ring a (p && s))
  takes_by true p s ended is_a is_p is_s some answer =
      let above = ltb-true ring.read_tags ring.written_tags is_a in
      let counted = readable.counted in
      let none : length (drop (ring.written_tags - ring.read_tags) ring.unread) ≡ 0 = let e = length-drop (ring.written_tags - ring.read_tags) ring.unread in omega arith in
      let all : length (map (record_of ring.hdrsize) (take (ring.written_tags - ring.read_tags) ring.unread)) ≡ length ring.unread =
      length-map (take (ring.written_tags - ring.read_tags) ring.unread) (record_of ring.hdrsize) ∙ ap length all_taken in
      record { fewer = omega arith; some = omega arith }
  takes_by false true true ended is_a is_p is_s some answer = let above = ltb-true 0 ring.pending is_p in record { fewer = omega arith; some = omega arith }
  takes_by false true false ended is_a is_p is_s some answer = absurd (true≢false (sym is_s))
  takes_by false false s ended is_a is_p is_s some answer = absurd (true≢false (sym some))

  pub takes : (ahead || pends) ≡ true → Takes ring (acted (looked ring)) (records_taken (looked ring))
  takes some = takes_by ahead pends (unchanged ring) ring.ended refl refl (always_unchanged ring) some (found_by ring ahead pends (unchanged ring) ring.ended)

  none_by : (a p s : Bool) → ahead ≡ a → pends ≡ p → (a || p) ≡ false → FindsNone ring (taken_by ring a (p && s))
  none_by true p s is_a is_p none = absurd (true≢false none)
  none_by false true s is_a is_p none = absurd (true≢false none)
  none_by false false s is_a is_p none =
      let below = ltb-false ring.read_tags ring.written_tags is_a in
      let zero_pending = ltb-false 0 ring.pending is_p in
      let counted = readable.counted in
      record { none_unread = no_pieces ring.unread (omega arith); none_pending = omega arith; none = refl }

  pub finds_none : (ahead || pends) ≡ false → FindsNone ring (records_taken (looked ring))
  finds_none none = none_by ahead pends (unchanged ring) refl refl none

  -- where the end is marked it is found exactly then
  end_by : (a p s ended : Bool) → ended ≡ true → is_end (found_by ring a p s ended) ≡ not (a || p)
  end_by true p s ended e = refl
  end_by false true true ended e = refl
  end_by false true false ended e = refl
  end_by false false s true e = refl
  end_by false false s false e = absurd (true≢false (sym e))

  pub end_is : ring.ended ≡ true → is_end (acted (looked ring)).hand ≡ not (ahead || pends)
  end_is ended = end_by ahead pends (unchanged ring) ring.ended ended

  -- what stays as it was
  kept_by : {A : Type 0} (f : PlainRing → A) (v : A) → ((answer : Found) → f (with_found (without_batch (looked ring) (seen_now ring)) answer) ≡ v) → ((answer : Found) → f (with_found (without_loss (looked ring)) answer) ≡ v) →
      ((answer : Found) → f (with_found (looked ring) answer) ≡ v) → (a lost : Bool) (answer : Found) → f (left_by ring a lost answer) ≡ v
  kept_by f v x y z true lost answer = x answer
  kept_by f v x y z false true answer = y answer
  kept_by f v x y z false false answer = z answer

  pub read_header : (acted (looked ring)).hdrsize ≡ ring.hdrsize
  read_header = kept_by (λ (r : PlainRing). r.hdrsize) ring.hdrsize (λ answer. refl) (λ answer. refl) (λ answer. refl) ahead (pends && unchanged ring) (found_by ring ahead pends (unchanged ring) ring.ended)

  pub read_len : (acted (looked ring)).len ≡ ring.len
  read_len = kept_by (λ (r : PlainRing). r.len) ring.len (λ answer. refl) (λ answer. refl) (λ answer. refl) ahead (pends && unchanged ring) (found_by ring ahead pends (unchanged ring) ring.ended)

  pub read_tags : (acted (looked ring)).tags ≡ ring.tags
  read_tags = kept_by (λ (r : PlainRing). r.tags) ring.tags (λ answer. refl) (λ answer. refl) (λ answer. refl) ahead (pends && unchanged ring) (found_by ring ahead pends (unchanged ring) ring.ended)

  pub read_ended : (acted (looked ring)).ended ≡ ring.ended
  read_ended = kept_by (λ (r : PlainRing). r.ended) ring.ended (λ answer. refl) (λ answer. refl) (λ answer. refl) ahead (pends && unchanged ring) (found_by ring ahead pends (unchanged ring) ring.ended)

  abbrev IsCounted : PlainRing → Type 0
  IsCounted r = r.read_tags + length r.unread ≡ r.written_tags

  counted_by : (a lost : Bool) (answer : Found) → ahead ≡ a → IsCounted (left_by ring a lost answer)
  counted_by true lost answer is_a =
      let above = ltb-true ring.read_tags ring.written_tags is_a in
      let counted = readable.counted in
      let none = length-drop (ring.written_tags - ring.read_tags) ring.unread in omega arith
  counted_by false true answer is_a = readable.counted
  counted_by false false answer is_a = readable.counted

  pub read_readable : IsReadable (acted (looked ring))
  read_readable = record {
    header = read_header ∙ readable.header;
    counted = counted_by ahead (pends && unchanged ring) (found_by ring ahead pends (unchanged ring) ring.ended) refl;
    whole = pieces_stay_whole (record { ring = looked ring; offers = []; taken = [] }) Act readable.header refl readable.whole;
  }

-- a ring that follows offers and records, and has one header word and whole records unread, may be read
pub follows_readable : (offers : List Offer) (records : List RingRecord) (ring : PlainRing) → Follows offers records ring → ring.hdrsize ≡ 1 → AllByRecursion IsWhole ring.unread → IsReadable ring
follows_readable offers records ring follows header whole = record { header = header; counted = follows.unread; whole = whole }

-- and follows them with what is taken
pub read_follows : (offers : List Offer) (records : List RingRecord) (ring : PlainRing) → Follows offers records ring → Follows offers (records ++ records_taken (looked ring)) (acted (looked ring))
read_follows offers records ring follows =
    let now = look-follows offers records ring follows in act-follows offers records (looked ring) (seen_now ring) now now.seen

-- Once a ring with the end marked is read to its end all is taken.
pub record IsAll (words tags : ℕ) (offers : List Offer) (records : List RingRecord) : Type 0 where
  pub covered : Covers records offers
  pub begins : (rest : List RingRecord) × (samples (head 1 words tags offers) ++ rest ≡ records)

nothing_behind : (records : List RingRecord) (ring : PlainRing) → ring.unread ≡ [] → ring.pending ≡ 0 → (records ++ unread_records ring ++ pending_records ring ≡ records) × (records ++ unread_records ring ≡ records)
nothing_behind records ring none zero_pending =
    let unread : unread_records ring ≡ [] = ap (map (record_of ring.hdrsize)) none in
    let pending : pending_records ring ≡ [] = ap (λ n. if n == 0 then [] else Loss n ring.since ∷ []) zero_pending in (
      (λ i. records ++ unread i ++ pending i) ∙ append-nil (records ++ []) ∙ append-nil records,
      ap (λ l. records ++ l) unread ∙ append-nil records,
    )

module _ (words tags : ℕ) (offers : List Offer) where
  pub all_at_end : (reads : ℕ) (records : List RingRecord) (ring : PlainRing) → Follows offers records ring → IsReadable ring → ring.len ≡ words → ring.tags ≡ tags → ring.ended ≡ true → needed ring ≤ reads →
      IsAll words tags offers (records ++ taken_to_end reads ring)
  unfolding taken_to_end
  all_at_end zero records ring follows readable is_len is_tags ended enough = absurd (omega arith)
  all_at_end (suc reads) records ring follows readable is_len is_tags ended enough =
      by (nat_lt ring.read_tags ring.written_tags || nat_lt 0 ring.pending) refl
      (λ fewer. all_at_end reads (records ++ records_taken (looked ring)) (acted (looked ring)) (read_follows offers records ring follows) (read_readable ring readable) (read_len ring readable ∙ is_len)
      (read_tags ring readable ∙ is_tags) (read_ended ring readable ∙ ended) (omega arith))
    where
      by : (more : Bool) → (nat_lt ring.read_tags ring.written_tags || nat_lt 0 ring.pending) ≡ more →
          (needed (acted (looked ring)) < needed ring → IsAll words tags offers ((records ++ records_taken (looked ring)) ++ taken_to_end reads (acted (looked ring)))) → IsAll words tags offers (records ++ taken_to_end (suc reads) ring)
      by true some rest =
          let took = takes ring readable some in
          let on : is_end (acted (looked ring)).hand ≡ false = end_is ring readable ended ∙ ap not some in
          subst (IsAll words tags offers)
          (append_assoc records (records_taken (looked ring)) (taken_to_end reads (acted (looked ring)))
          ∙ ap (λ b. records ++ (records_taken (looked ring) ++ (if b then [] else taken_to_end reads (acted (looked ring))))) (sym on))
          (rest took.fewer)
      by false none rest =
          let finds = finds_none ring readable none in
          let on : is_end (acted (looked ring)).hand ≡ true = end_is ring readable ended ∙ ap not none in
          let taken_none : taken_to_end (suc reads) ring ≡ [] = λ i. finds.none i ++ (if on i then [] else taken_to_end reads (acted (looked ring))) in
          let behind = nothing_behind records ring finds.none_unread finds.none_pending in
          let all = ap (λ l. records ++ l) taken_none ∙ append-nil records in
          let begins = follows.begins in
          record {
            covered = subst (λ l. Covers l offers) (behind.0 ∙ sym all) follows.covered;
            begins = (begins.0, (λ i. samples (head (sym readable.header i) (sym is_len i) (sym is_tags i) offers) ++ begins.0) ∙ begins.1 ∙ behind.1 ∙ sym all);
          }

-- a ring is closed
pub closed_readable : (ring : PlainRing) → IsReadable ring → IsReadable (closed ring)
closed_readable ring readable = record { header = readable.header; counted = readable.counted; whole = readable.whole }

pub few_needed : (ring : PlainRing) → needed ring ≤ 3
few_needed ring = omega arith

pub read_out : (words tags : ℕ) (offers : List Offer) (records : List RingRecord) (ring : PlainRing) → Follows offers records ring → IsReadable ring → ring.len ≡ words → ring.tags ≡ tags →
    IsAll words tags offers (records ++ taken_to_end 3 (closed ring))
read_out words tags offers records ring follows readable is_len is_tags =
    all_at_end words tags offers 3 records (closed ring) (close-follows offers records ring follows) (closed_readable ring readable) is_len is_tags refl (few_needed (closed ring))

-- where there is more a read takes something
pub more_takes : (ring : PlainRing) → IsReadable ring → has_more ring ≡ true → 1 ≤ length (records_taken (looked ring))
more_takes ring readable more = by (nat_lt ring.read_tags ring.written_tags || nat_lt 0 ring.pending) refl
  where
    by : (b : Bool) → (nat_lt ring.read_tags ring.written_tags || nat_lt 0 ring.pending) ≡ b → 1 ≤ length (records_taken (looked ring))
    by true some = (takes ring readable some).some
    by false none =
        let finds = finds_none ring readable none in
        let has : has_more ring ≡ false = λ i. nat_lt 0 (length (finds.none_unread i)) || nat_lt 0 (finds.none_pending i) in
        absurd (true≢false (sym more ∙ has))

-- ---- one read of those to the end

not_true : (b : Bool) → not b ≡ true → b ≡ false
not_true true e = absurd (true≢false (sym e))
not_true false e = refl

-- One that doesn't find the end takes something, and what is left comes behind that.
pub record ReadsOn (ring : PlainRing) (left : ℕ) : Type 0 where
  pub took : Takes ring (acted (looked ring)) (records_taken (looked ring))
  pub rest : taken_to_end (left + 1) ring ≡ records_taken (looked ring) ++ taken_to_end left (acted (looked ring))

pub reads_on : (ring : PlainRing) (left : ℕ) → IsReadable ring → ring.ended ≡ true → not (is_end (acted (looked ring)).hand) ≡ true → ReadsOn ring left
unfolding taken_to_end
reads_on ring left readable ended on = record {
  took = takes ring readable (not_not (nat_lt ring.read_tags ring.written_tags || nat_lt 0 ring.pending) (sym (end_is ring readable ended) ∙ not_true (is_end (acted (looked ring)).hand) on));
  rest =
      let more : left + 1 ≡ suc left = omega arith in
      ap (λ n. taken_to_end n ring) more
      ∙ ap (λ b. records_taken (looked ring) ++ (if b then [] else taken_to_end left (acted (looked ring)))) (not_true (is_end (acted (looked ring)).hand) on);
}
  where
    not_not : (b : Bool) → not b ≡ false → b ≡ true
    not_not true e = refl
    not_not false e = absurd (true≢false e)

-- One that finds the end is the last.
pub last_read : (ring : PlainRing) (left : ℕ) → not (is_end (acted (looked ring)).hand) ≡ false → taken_to_end (left + 1) ring ≡ records_taken (looked ring)
unfolding taken_to_end
last_read ring left off =
    let more : left + 1 ≡ suc left = omega arith in
    ap (λ n. taken_to_end n ring) more
    ∙ ap (λ b. records_taken (looked ring) ++ (if b then [] else taken_to_end left (acted (looked ring)))) (at_end (is_end (acted (looked ring)).hand) off)
    ∙ append-nil (records_taken (looked ring))
  where
    at_end : (b : Bool) → not b ≡ false → b ≡ true
    at_end true e = refl
    at_end false e = absurd (true≢false e)

pub few_reads : (old now left all : List RingRecord) (reads : ℕ) → now ++ left ≡ old ++ all → length old + reads ≤ length now + 1 → reads ≤ length all + 1
few_reads old now left all reads same each = omega (arith, length-append now left, length-append old all, ap length same)
