-- The ring of a run stays kept with each entry and each read, and closed and read to its end it has given all.
use Rattle.std.proofs.Common.{◌≡◌, ◌<◌, ◌≤◌, ◌+◌, ◌*◌, ◌^◌, ℕ, false, List, [], ◌∷◌, ◌++◌, length, refl, sym, ap, ◌∙◌, subst, arith}
use Rattle.std.specs.List.{AllByRecursion}
use Rattle.std.proofs.lemmas.List.{length-append, append-nil}
use Rattle.gp_isa.specs.declared.parts.Parts.{Parts}
use Rattle.gp_stack.specs.Body.{Progress}
use Rattle.gp_journal.specs.declared.entry.Entry.{Entry}
use Rattle.gp_journal.specs.declared.entry.Entry.TheVariants.{Start, Run, Op, Tick, Park, Open, Refuse, Record, Close}
use Rattle.gp_journal.specs.declared.goroutine.Goroutine.{Goroutine}
use Rattle.gp_journal.specs.declared.settings.Settings.{Settings}
use Rattle.gp_journal.specs.Settings.{AreInRange}
use Rattle.gp_journal.specs.State.{State, code_of, goroutine}
use Rattle.gp_journal.specs.Run.{last}
use Rattle.gp_journal.specs.Bodies.{standing}
use Rattle.gp_journal.specs.NumberLaws.{most_entries}
use Rattle.gp_ring.specs.Records.{Offer, RingRecord, IsOffer, words_for_most}
use Rattle.gp_ring.specs.PlainRing.{PlainRing, empty_ring, written, closed, looked, acted, records_taken}
use Rattle.gp_ring.specs.Follows.{Follows, IsOfferable}
use Rattle.gp_ring.specs.Calls.{Write}
use Rattle.gp_ring.proofs.Reading.{empty-follows, call-follows}
use Rattle.gp_cpu.specs.Samples.{rate_record, sample_of, sampled_at, samples_of_journal}
use Rattle.gp_cpu.specs.BatchLaw.{IsWhole}
use Rattle.gp_cpu.proofs.Sampling.{samples_begin, samples_grow}
use Rattle.gp_cpu.proofs.Staying.{pieces_stay_whole}
use Rattle.gp_samples.specs.RunRing.{ring_len, ring_tags, begun_ring, sample_at, with_offers, taken_to_end, IsReadable, KeepsRing}
use Rattle.gp_samples.specs.RunRingLaw.{BodiesAreSampled, AllRead}
use Rattle.gp_samples.proofs.Offers.{written-hdrsize, written-len, written-tags, written-ended, rate_fits, sample_fits, samples_number, samples_words, entries_few}
use Rattle.gp_samples.proofs.ReadOut.{follows_readable, read_follows, read_readable, read_header, read_len, read_tags, read_ended, read_out}

-- A body that stands where its goroutine does is sampled as that is.
pub bodies_are_sampled : BodiesAreSampled
bodies_are_sampled program state it = refl

pub sample_is : (program : Parts) (state : State) (it : Goroutine) (place : Progress) → place ≡ standing it → sample_at program state.clock place ≡ sample_of (code_of program) state it
sample_is program state it place stands = ap (sample_at program state.clock) stands ∙ bodies_are_sampled program state it

-- The sample of a goroutine fits behind those of a journal that has room for an entry.
pub record Fits (program : Parts) (settings : Settings) (offers : List Offer) (offer : Offer) : Type 0 where
  pub offer_fits : IsOffer 1 (ring_len program settings) offer
  pub few : length offers < 2 ^ 30
  pub words : 2 * words_for_most 1 (offers ++ offer ∷ []) < 2 ^ 32

pub samples_fit : (program : Parts) (settings : Settings) → AreInRange settings → (journal : List Entry) (g : ℕ) → length journal < most_entries settings →
    let now = last (code_of program) settings journal in Fits program settings (samples_of_journal (code_of program) settings journal) (sample_of (code_of program) now (goroutine now g))
samples_fit program settings range journal g fits =
    let code = code_of program in
    let now = last code settings journal in
    let offer = sample_of code now (goroutine now g) in
    let bound = entries_few settings range in
    let grown_words : words_for_most 1 (samples_of_journal code settings journal ++ offer ∷ []) ≤ 67 * length (journal ++ Tick 0 g ∷ []) + 4 =
    subst (λ l. words_for_most 1 l ≤ 67 * length (journal ++ Tick 0 g ∷ []) + 4) (samples_grow code settings journal (Tick 0 g)) (samples_words program settings (journal ++ Tick 0 g ∷ [])) in
    let longer : length (journal ++ Tick 0 g ∷ []) ≡ length journal + 1 = length-append journal (Tick 0 g ∷ []) in
    let number = samples_number program settings journal in
    record { offer_fits = sample_fits program settings now (goroutine now g) range; few = omega arith; words = omega arith }

-- ---- the ring is kept

-- whatever is offered and taken
record Keeps (words tags : ℕ) (offers : List Offer) (records : List RingRecord) (ring : PlainRing) : Type 0 where
  pub header : ring.hdrsize ≡ 1
  pub has_words : ring.len ≡ words
  pub has_tags : ring.tags ≡ tags
  pub is_open : ring.ended ≡ false
  pub follows : Follows offers records ring
  pub whole : AllByRecursion IsWhole ring.unread

offer_keeps : (words tags : ℕ) (offers : List Offer) (records : List RingRecord) (ring : PlainRing) (offer : Offer) → Keeps words tags offers records ring → IsOffer 1 words offer →
    Keeps words tags (offers ++ offer ∷ []) records (written ring offer)
offer_keeps words tags offers records ring offer keeps fits =
    let may : IsOffer ring.hdrsize ring.len offer =
    subst (λ h. IsOffer h ring.len offer) (sym keeps.header) (subst (λ l. IsOffer 1 l offer) (sym keeps.has_words) fits) in
    record {
      header = written-hdrsize ring offer ∙ keeps.header;
      has_words = written-len ring offer ∙ keeps.has_words;
      has_tags = written-tags ring offer ∙ keeps.has_tags;
      is_open = written-ended ring offer ∙ keeps.is_open;
      follows = call-follows (record { ring = ring; offers = offers; taken = records }) (Write offer) keeps.follows (keeps.is_open, may);
      whole = pieces_stay_whole (record { ring = ring; offers = offers; taken = records }) (Write offer) keeps.header (keeps.is_open, may) keeps.whole;
    }

module _ (program : Parts) (settings : Settings) (range : AreInRange settings) where
  -- for some offers
  abbrev KeepsFor : List Offer → List RingRecord → PlainRing → Type 0
  KeepsFor offers records ring = Keeps (ring_len program settings) (ring_tags settings) offers records ring

  abbrev samples_so_far : List Entry → List Offer
  samples_so_far journal = samples_of_journal (code_of program) settings journal

  keeps_ring : (journal : List Entry) (records : List RingRecord) (ring : PlainRing) → KeepsFor (samples_so_far journal) records ring → KeepsRing program settings journal records ring
  keeps_ring journal records ring keeps =
      record { header = keeps.header; words = keeps.has_words; tags = keeps.has_tags; is_open = keeps.is_open; follows = keeps.follows; whole = keeps.whole }

  -- as a run begins,
  pub begun_keeps : KeepsRing program settings [] [] (begun_ring program settings)
  unfolding begun_ring
  begun_keeps = keeps_ring [] [] (begun_ring program settings)
      (subst (λ l. KeepsFor l [] (begun_ring program settings)) (sym (samples_begin (code_of program) settings))
      (offer_keeps (ring_len program settings) (ring_tags settings) [] [] (empty_ring 1 (ring_len program settings) (ring_tags settings)) (rate_record settings)
      (record { header = refl; has_words = refl; has_tags = refl; is_open = refl; follows = empty-follows 1 (ring_len program settings) (ring_tags settings); whole = tt })
      (rate_fits program settings range)))

  module _ (journal : List Entry) (records : List RingRecord) (ring : PlainRing) (keeps : KeepsRing program settings journal records ring) where
    abbrev now : State
    now = last (code_of program) settings journal

    ring_keeps : KeepsFor (samples_so_far journal) records ring
    ring_keeps = record { header = keeps.header; has_words = keeps.words; has_tags = keeps.tags; is_open = keeps.is_open; follows = keeps.follows; whole = keeps.whole }

    grown : (entry : Entry) (next : PlainRing) → KeepsFor (samples_so_far journal ++ sampled_at (code_of program) now entry) records next → KeepsRing program settings (journal ++ entry ∷ []) records next
    grown entry next it = keeps_ring (journal ++ entry ∷ []) records next (subst (λ l. KeepsFor l records next) (sym (samples_grow (code_of program) settings journal entry)) it)

    -- with an entry that samples nobody,
    pub still_keeps : (entry : Entry) → sampled_at (code_of program) now entry ≡ [] → KeepsRing program settings (journal ++ entry ∷ []) records ring
    still_keeps entry none = grown entry ring (subst (λ l. KeepsFor l records ring) (sym (append-nil (samples_so_far journal)) ∙ ap (λ l. samples_so_far journal ++ l) (sym none)) ring_keeps)

    -- with a Tick, of whom the ring has the sample,
    pub tick_keeps : (w g : ℕ) → KeepsRing program settings (journal ++ Tick w g ∷ []) records (written ring (sample_of (code_of program) now (goroutine now g)))
    tick_keeps w g = grown (Tick w g) (written ring (sample_of (code_of program) now (goroutine now g)))
        (offer_keeps (ring_len program settings) (ring_tags settings) (samples_so_far journal) records ring (sample_of (code_of program) now (goroutine now g)) ring_keeps
        (sample_fits program settings now (goroutine now g) range))

    -- with any entry,
    pub entry_keeps : (entry : Entry) → KeepsRing program settings (journal ++ entry ∷ []) records (with_offers ring (sampled_at (code_of program) now entry))
    entry_keeps (Tick w g) = tick_keeps w g
    entry_keeps (Start w g) = still_keeps (Start w g) refl
    entry_keeps (Run w g n) = still_keeps (Run w g n) refl
    entry_keeps (Op w g) = still_keeps (Op w g) refl
    entry_keeps (Park w g) = still_keeps (Park w g) refl
    entry_keeps (Open epoch room) = still_keeps (Open epoch room) refl
    entry_keeps (Refuse room n) = still_keeps (Refuse room n) refl
    entry_keeps (Record actor g) = still_keeps (Record actor g) refl
    entry_keeps (Close epoch) = still_keeps (Close epoch) refl

    -- and with a read.
    pub readable : IsReadable ring
    readable = follows_readable (samples_so_far journal) records ring keeps.follows keeps.header keeps.whole

    pub read_keeps : KeepsRing program settings journal (records ++ records_taken (looked ring)) (acted (looked ring))
    read_keeps = record {
      header = read_header ring readable ∙ keeps.header;
      words = read_len ring readable ∙ keeps.words;
      tags = read_tags ring readable ∙ keeps.tags;
      is_open = read_ended ring readable ∙ keeps.is_open;
      follows = read_follows (samples_so_far journal) records ring keeps.follows;
      whole = (read_readable ring readable).whole;
    }

    -- A sample may be offered where its entry has room,
    pub sample_offerable : (g : ℕ) → length journal < most_entries settings → IsOfferable ring (sample_of (code_of program) now (goroutine now g))
    sample_offerable g fits =
        let offer = sample_of (code_of program) now (goroutine now g) in
        let room = samples_fit program settings range journal g fits in (
          samples_so_far journal,
          records,
          keeps.follows,
          record {
            open_ring = keeps.is_open;
            offer_fits = subst (λ h. IsOffer h ring.len offer) (sym keeps.header) (subst (λ l. IsOffer 1 l offer) (sym keeps.words) room.offer_fits);
            few = room.few;
            words = subst (λ h. 2 * words_for_most h (samples_so_far journal ++ offer ∷ []) < 2 ^ 32) (sym keeps.header) room.words;
          },
        )

    -- so that of a body that stands where its goroutine does may be.
    pub body_offerable : (g : ℕ) (place : Progress) → place ≡ standing (goroutine now g) → length journal < most_entries settings → IsOfferable ring (sample_at program now.clock place)
    body_offerable g place stands fits = subst (IsOfferable ring) (sym (sample_is program now (goroutine now g) place stands)) (sample_offerable g fits)

    -- Once it is closed and read to its end all is read.
    pub all_read : AllRead program settings journal (records ++ taken_to_end 3 (closed ring))
    all_read =
        let all = read_out (ring_len program settings) (ring_tags settings) (samples_so_far journal) records ring keeps.follows readable keeps.words keeps.tags in
        record { covered = all.covered; begins = all.begins }
