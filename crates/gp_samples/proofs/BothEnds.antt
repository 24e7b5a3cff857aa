-- What is offered to the ring of a run that two threads share, and what is taken from it.
use Rattle.std.proofs.Common.{◌≡◌, ◌<◌, ◌*◌, ◌^◌, ℕ, Bool, true, false, ◌&&◌, ◌==◌, List, [], ◌∷◌, ◌++◌, map, length, refl, sym, ap, ◌∙◌, subst, arith, eq-eqb, if◌then◌else◌}
use Rattle.std.specs.Prelude.{max}
use Rattle.std.specs.Int.{IsNextPowerOfTwo}
use Rattle.std.specs.List.{flat_map, AllByRecursion}
use Rattle.gp_isa.specs.declared.parts.Parts.{Parts}
use Rattle.gp_stack.specs.Body.{Progress}
use Rattle.gp_journal.specs.declared.entry.Entry.{Entry}
use Rattle.gp_journal.specs.declared.settings.Settings.{Settings}
use Rattle.gp_journal.specs.Settings.{AreInRange}
use Rattle.gp_journal.specs.State.{code_of, goroutine}
use Rattle.gp_journal.specs.Run.{last}
use Rattle.gp_journal.specs.Bodies.{standing}
use Rattle.gp_journal.specs.NumberLaws.{most_entries}
use Rattle.gp_layout.specs.Spelling.{spelled, loss_size}
use Rattle.gp_ring.specs.Records.{Offer, RingRecord, IsOffer, Covers, all_zero, words_for_most}
use Rattle.gp_ring.specs.PlainRing as plain
use Rattle.gp_ring.specs.PlainRing.{Piece, piece_for, record_of}
use Rattle.gp_ring.specs.Course.{records_for, StartsWithHead}
use Rattle.gp_ring.specs.Course as course
use Rattle.gp_ring.specs.Shown.{Shows}
use Rattle.gp_ring.specs.TwoEnds.{RingOf, WriterEnd, ReaderEnd, MayWrite, Reads, acted_by, is_ahead, has_loss}
use Rattle.gp_ring.specs.declared.taken.Taken.{Taken}
use Rattle.gp_ring.specs.declared.taken.Taken.TheVariants.{Batch, Lost, Raced, Nothing, End}
use Rattle.gp_cpu.specs.Records.{ring_record_of}
use Rattle.gp_cpu.specs.Batch.{AreRecords, records_in}
use Rattle.gp_cpu.specs.BatchLaw.{IsWhole, words_of_pieces, tags_of_pieces}
use Rattle.gp_cpu.specs.Samples.{rate_record, sample_of, sampled_at}
use Rattle.gp_cpu.proofs.Pieces.{pieces_are_batches}
use Rattle.gp_cpu.proofs.Sampling.{samples_begin, samples_grow}
use Rattle.gp_samples.specs.RunRing.{ring_words, ring_len, ring_tags, sample_at}
use Rattle.gp_samples.specs.RunEnds.{IsSized, AreOffers}
use Rattle.gp_samples.specs.RunEndsLaw.{OffersGrow, SamplesMayBeWritten, SettledIsAllRead}
use Rattle.gp_samples.proofs.Offers.{made_len, made_tags}
use Rattle.gp_samples.proofs.Keeping.{sample_is, samples_fit}

-- ---- what is offered

-- the ring as it is made
pub made_sized : (program : Parts) (settings : Settings) → AreInRange settings → (words : ℕ) (ring : RingOf) → words ≡ ring_words program settings → ring.hdrsize ≡ 1 →
    IsNextPowerOfTwo (max words (loss_size 1)) ring.len → IsNextPowerOfTwo settings.tags ring.tags → IsSized program settings ring
made_sized program settings range words ring asked header has_words has_tags =
    record { header = header; words = made_len program settings range words ring.len asked has_words; tags = made_tags settings range ring.tags has_tags }

-- and with the rate record
pub rate_offered : (program : Parts) (settings : Settings) (ring next : RingOf) (offers later : List Offer) → IsSized program settings ring → next ≡ ring → offers ≡ [] → later ≡ offers ++ rate_record settings ∷ [] →
    AreOffers program settings [] next later
rate_offered program settings ring next offers later sized same none grown = record {
  sized = subst (IsSized program settings) (sym same) sized;
  samples = grown ∙ ap (λ l. l ++ rate_record settings ∷ []) none ∙ sym (samples_begin (code_of program) settings);
}

pub offers_grow : OffersGrow
offers_grow program settings journal ring offers entry are =
    record { sized = are.sized; samples = ap (λ l. l ++ sampled_at (code_of program) (last (code_of program) settings journal) entry) are.samples ∙ sym (samples_grow (code_of program) settings journal entry) }

pub samples_may_be_written : SamplesMayBeWritten
samples_may_be_written program settings journal writer range are g fits =
    let now = last (code_of program) settings journal in
    let offer = sample_of (code_of program) now (goroutine now g) in
    let room = samples_fit program settings range journal g fits in
    record {
      offer_fits = subst (λ h. IsOffer h writer.ring.len offer) (sym are.sized.header) (subst (λ l. IsOffer 1 l offer) (sym are.sized.words) room.offer_fits);
      few = subst (λ (l : List Offer). length l < 2 ^ 30) (sym are.samples) room.few;
      words =
          subst (λ h. 2 * words_for_most h (writer.offers ++ offer ∷ []) < 2 ^ 32) (sym are.sized.header)
          (subst (λ (l : List Offer). 2 * words_for_most 1 (l ++ offer ∷ []) < 2 ^ 32) (sym are.samples) room.words);
    }

-- that of a body that stands where its goroutine does
pub body_may_be_written : (program : Parts) (settings : Settings) (journal : List Entry) (writer : WriterEnd) → AreInRange settings → AreOffers program settings journal writer.ring writer.offers →
    (g : ℕ) (place : Progress) → place ≡ standing (goroutine (last (code_of program) settings journal) g) → length journal < most_entries settings →
    MayWrite writer (sample_at program (last (code_of program) settings journal).clock place)
body_may_be_written program settings journal writer range are g place stands fits =
    let now = last (code_of program) settings journal in
    subst (MayWrite writer) (sym (sample_is program now (goroutine now g) place stands)) (samples_may_be_written program settings journal writer range are g fits)

-- ---- what is taken

-- What is spelled with one header word is whole, if a header of 0 has one word of stack.
whole_spelled : (tag time : ℕ) (header stack : List ℕ) → length header ≡ 1 → (all_zero header ≡ true → length stack ≡ 1) → IsWhole (record { tag = tag; words = spelled time header stack })
whole_spelled tag time [] stack one loss = absurd (omega arith)
whole_spelled tag time (h ∷ []) stack one loss = record {
  begins = record {
    whole = record { begins = omega arith; ends = omega arith };
    loss = λ is_zero. let one_word = loss (ap (λ (b : Bool). b && true) (eq-eqb h 0 is_zero)) in omega (arith, one_word);
  };
  ends = omega arith;
}
whole_spelled tag time (h ∷ g ∷ header) stack one loss = absurd (omega arith)

-- the records that lay in the ring as pieces: whole, with these words and tags, and the same records
pieces_whole : (records : List Offer) → AllByRecursion (course.IsWhole 1) records → AllByRecursion IsWhole (map piece_for records)
pieces_whole [] whole = tt
pieces_whole (r ∷ records) whole = (whole_spelled r.tag r.time r.header r.stack whole.0.header_size whole.0.loss, pieces_whole records whole.1)

pieces_words : (records : List Offer) → words_of_pieces (map piece_for records) ≡ flat_map (λ offer. (piece_for offer).words) records
pieces_words [] = refl
pieces_words (r ∷ records) = ap (λ (l : List ℕ). (piece_for r).words ++ l) (pieces_words records)

pieces_tags : (records : List Offer) → tags_of_pieces (map piece_for records) ≡ map (λ (offer : Offer). offer.tag) records
pieces_tags [] = refl
pieces_tags (r ∷ records) = ap (λ (l : List ℕ). r.tag ∷ l) (pieces_tags records)

pieces_records : (records : List Offer) → map (record_of 1) (map piece_for records) ≡ records_for 1 records
pieces_records [] = refl
pieces_records (r ∷ records) = ap (λ (l : List RingRecord). record_of 1 (piece_for r) ∷ l) (pieces_records records)

-- What a batch shows may be added, and adds what the read takes.
abbrev AddsBatch : (before after : List RingRecord) → Taken → Type 0
AddsBatch before after (Batch w t) = AreRecords w.now t.now × (after ≡ before ++ map ring_record_of (records_in w.now t.now))
AddsBatch before after _ = Unit {0}

shows_none : (b : Bool) (shown : Taken) (before after : List RingRecord) → Shows (if b then plain.End else plain.Nothing) shown → AddsBatch before after shown
shows_none true (Batch w t) before after shows = absurd shows
shows_none false (Batch w t) before after shows = absurd shows
shows_none b (Lost n t) before after shows = tt
shows_none b (Raced w f) before after shows = tt
shows_none b Nothing before after shows = tt
shows_none b End before after shows = tt

acted_adds : (a l w : Bool) (old : ReaderEnd) (records : List Offer) (time found : ℕ) (shown : Taken) → old.ring.hdrsize ≡ 1 → AllByRecursion (course.IsWhole 1) records →
    Shows (acted_by a l w old records time found).hand shown → AddsBatch old.taken (acted_by a l w old records time found).taken shown
acted_adds true l w old records time found (Batch ws t) header whole shows =
    let is = pieces_are_batches (map piece_for records) (pieces_whole records whole) in
    let words : words_of_pieces (map piece_for records) ≡ ws.now = pieces_words records ∙ sym shows.0 in
    let tags : tags_of_pieces (map piece_for records) ≡ t.now = pieces_tags records ∙ sym shows.1 in (
      subst (AreRecords ws.now) tags (subst (λ l. AreRecords l (tags_of_pieces (map piece_for records))) words is.may_add),
      ap (λ (more : List RingRecord). old.taken ++ more)
          (ap (λ h. records_for h records) header ∙ sym (pieces_records records) ∙ sym is.adds ∙ (λ i. map ring_record_of (records_in (words i) (tags i)))),
    )
acted_adds false true true old records time found (Batch ws t) header whole shows = absurd shows
acted_adds false true false old records time found (Batch ws t) header whole shows = absurd shows
acted_adds false false w old records time found (Batch ws t) header whole shows = shows_none (old.end == 1) (Batch ws t) old.taken old.taken shows
acted_adds a l w old records time found (Lost n t) header whole shows = tt
acted_adds a l w old records time found (Raced was f) header whole shows = tt
acted_adds a l w old records time found Nothing header whole shows = tt
acted_adds a l w old records time found End header whole shows = tt

pub read_adds : (old new : ReaderEnd) (shown : Taken) → old.ring.hdrsize ≡ 1 → Reads old new → Shows new.hand shown → AddsBatch old.taken new.taken shown
read_adds old new shown header reads shows =
    let middle = reads.middle in
    let acts = reads.acts in
    let one : middle.ring.hdrsize ≡ 1 = ap (λ (r : ReaderEnd). r.ring.hdrsize) reads.looks ∙ header in
    let adds = acted_adds (is_ahead middle) (has_loss middle) (new.found == middle.overflow) middle acts.records new.time new.found shown one
    (subst (λ h. AllByRecursion (course.IsWhole h) acts.records) one acts.whole) (subst (λ (r : ReaderEnd). Shows r.hand shown) acts.after shows) in
    subst (λ (l : List RingRecord). AddsBatch l new.taken shown) (ap (λ (r : ReaderEnd). r.taken) reads.looks) (subst (λ (r : ReaderEnd). AddsBatch middle.taken r.taken shown) (sym acts.after) adds)

-- ---- once the reader has taken in the writer

pub settled_is_all_read : SettledIsAllRead
settled_is_all_read program settings journal old new closed are settles = record {
  covered = subst (Covers new.taken) are.samples settles.covered;
  begins =
      subst (λ offers. StartsWithHead 1 (ring_len program settings) (ring_tags settings) offers new.taken) are.samples
      (subst (λ t. StartsWithHead 1 (ring_len program settings) t closed.offers new.taken) are.sized.tags
      (subst (λ l. StartsWithHead 1 l closed.ring.tags closed.offers new.taken) are.sized.words
      (subst (λ h. StartsWithHead h closed.ring.len closed.ring.tags closed.offers new.taken) are.sized.header settles.begins)));
}
