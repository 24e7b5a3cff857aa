-- What a run offers to its ring fits there, and isn't much.
use Rattle.std.proofs.Common.{◌≡◌, ◌<◌, ◌≤◌, ◌+◌, ◌*◌, ◌^◌, ℕ, suc, Bool, true, false, nat_eq, ◌&&◌, ◌==◌, List, [], ◌∷◌, ◌++◌, map, length, take, refl, ap, ◌∙◌, subst, arith, if◌then◌else◌}
use Rattle.std.specs.Prelude.{max, min}
use Rattle.std.specs.Int.{IsNextPowerOfTwo}
use Rattle.std.proofs.lemmas.Bool.{eqb-true}
use Rattle.std.proofs.lemmas.List.{length-map, length-take}
use Rattle.gp_isa.specs.declared.parts.Parts.{Parts}
use Rattle.gp_isa.specs.Limits.{cpu_frames}
use Rattle.gp_isa.specs.Size.{depth_of}
use Rattle.gp_isa.specs.Trace.{trace}
use Rattle.gp_stack.specs.Goroutine.{stack_of}
use Rattle.gp_stack.specs.Word.{word_of}
use Rattle.gp_journal.specs.declared.entry.Entry.{Entry}
use Rattle.gp_journal.specs.declared.entry.Entry.TheVariants.{Start, Run, Op, Tick, Park, Open, Refuse, Record, Close}
use Rattle.gp_journal.specs.declared.goroutine.Goroutine.{Goroutine}
use Rattle.gp_journal.specs.declared.settings.Settings.{Settings}
use Rattle.gp_journal.specs.Settings.{AreInRange}
use Rattle.gp_journal.specs.State.{State, code_of, goroutine, first}
use Rattle.gp_journal.specs.Effect.{after}
use Rattle.gp_journal.specs.NumberLaws.{most_entries}
use Rattle.gp_layout.specs.Spelling.{loss_size}
use Rattle.gp_ring.specs.Records.{Offer, IsOffer, words_for_most}
use Rattle.gp_ring.specs.PlainRing.{PlainRing, empty_ring, written, is_kept}
use Rattle.gp_ring.specs.Follows.{IsOfferable}
use Rattle.gp_ring.proofs.Reading.{empty-follows}
use Rattle.gp_cpu.specs.Samples.{rate_record, sample_of, sampled_at, samples_from, samples_of_journal}
use Rattle.gp_samples.specs.RunRing.{ring_words, ring_len, ring_tags}
use Rattle.gp_samples.proofs.Rounded.{rounded_is_next, is_rounded}
use Rattle.gp_samples.proofs.Frames.{stack_short}

-- what two rings share either of them has
either : {A : Type 0} (f : PlainRing → A) (b : Bool) (x y : PlainRing) (v : A) → f x ≡ v → f y ≡ v → f (if b then x else y) ≡ v
either f true x y v p q = p
either f false x y v p q = q

pub written-hdrsize : (ring : PlainRing) (offer : Offer) → (written ring offer).hdrsize ≡ ring.hdrsize
written-hdrsize ring offer =
    either (λ (r : PlainRing). r.hdrsize) (is_kept ring offer) _ _ ring.hdrsize
    (either (λ (r : PlainRing). r.hdrsize) (ring.pending == 0) _ _ ring.hdrsize refl refl)
    (either (λ (r : PlainRing). r.hdrsize) (ring.pending == 0) _ _ ring.hdrsize refl refl)

pub written-len : (ring : PlainRing) (offer : Offer) → (written ring offer).len ≡ ring.len
written-len ring offer =
    either (λ (r : PlainRing). r.len) (is_kept ring offer) _ _ ring.len
    (either (λ (r : PlainRing). r.len) (ring.pending == 0) _ _ ring.len refl refl)
    (either (λ (r : PlainRing). r.len) (ring.pending == 0) _ _ ring.len refl refl)

pub written-tags : (ring : PlainRing) (offer : Offer) → (written ring offer).tags ≡ ring.tags
written-tags ring offer =
    either (λ (r : PlainRing). r.tags) (is_kept ring offer) _ _ ring.tags
    (either (λ (r : PlainRing). r.tags) (ring.pending == 0) _ _ ring.tags refl refl)
    (either (λ (r : PlainRing). r.tags) (ring.pending == 0) _ _ ring.tags refl refl)

pub written-ended : (ring : PlainRing) (offer : Offer) → (written ring offer).ended ≡ ring.ended
written-ended ring offer =
    either (λ (r : PlainRing). r.ended) (is_kept ring offer) _ _ ring.ended
    (either (λ (r : PlainRing). r.ended) (ring.pending == 0) _ _ ring.ended refl refl)
    (either (λ (r : PlainRing). r.ended) (ring.pending == 0) _ _ ring.ended refl refl)

-- ---- what is offered fits

-- the ring has the words that are asked for, and these are few
pub asked_few : (program : Parts) (settings : Settings) → AreInRange settings → ring_words program settings ≤ 2 ^ 20
asked_few program settings range = let some = range.some_ring in let few = range.ring in omega arith

pub has_asked : (program : Parts) (settings : Settings) → AreInRange settings → ring_words program settings ≤ ring_len program settings
has_asked program settings range = (rounded_is_next (ring_words program settings) (let few = asked_few program settings range in omega arith)).1

hz_tells : (hz : ℕ) → 1 ≤ hz → nat_eq hz 0 ≡ false
hz_tells hz some = by (nat_eq hz 0) refl
  where
    by : (b : Bool) → nat_eq hz 0 ≡ b → b ≡ false
    by true e = let none = eqb-true hz 0 e in absurd (omega arith)
    by false e = refl

pub rate_fits : (program : Parts) (settings : Settings) → AreInRange settings → IsOffer 1 (ring_len program settings) (rate_record settings)
rate_fits program settings range = record {
  header_size = refl;
  header_tells = ap (λ b. b && true) (hz_tells settings.hz range.some_hz);
  half = let all = has_asked program settings range in let some = range.some_ring in omega arith;
}

-- the words of a sample's stack
pub stack_words : (program : Parts) (it : Goroutine) → length (map word_of (take cpu_frames (stack_of (trace program it.start) it.count))) ≤ min cpu_frames (depth_of program)
stack_words program it =
    let short = stack_short program it.start it.count in
    let cut = length-take cpu_frames (stack_of (trace program it.start) it.count) in
    let words = length-map (take cpu_frames (stack_of (trace program it.start) it.count)) word_of in omega arith

pub sample_fits : (program : Parts) (settings : Settings) (s : State) (it : Goroutine) → AreInRange settings → IsOffer 1 (ring_len program settings) (sample_of (code_of program) s it)
sample_fits program settings s it range = record {
  header_size = refl;
  header_tells = refl;
  half = let all = has_asked program settings range in let few = stack_words program it in omega arith;
}

-- the ring of a run as it is made, and the first offer
pub made_len : (program : Parts) (settings : Settings) → AreInRange settings → (words len : ℕ) → words ≡ ring_words program settings → IsNextPowerOfTwo (max words (loss_size 1)) len → len ≡ ring_len program settings
made_len program settings range words len asked has_words =
    let some = range.some_ring in
    let few = asked_few program settings range in
    let most : max words (loss_size 1) ≡ ring_words program settings = omega arith in
    is_rounded (ring_words program settings) len (omega arith) (subst (λ n. IsNextPowerOfTwo n len) most has_words)

pub made_tags : (settings : Settings) → AreInRange settings → (tags : ℕ) → IsNextPowerOfTwo settings.tags tags → tags ≡ ring_tags settings
made_tags settings range tags has_tags = let few_tags = range.tags in is_rounded settings.tags tags (omega arith) has_tags

pub begun_sizes : (program : Parts) (settings : Settings) → AreInRange settings → (words : ℕ) (ring : PlainRing) → words ≡ ring_words program settings → ring ≡ empty_ring 1 ring.len ring.tags →
    IsNextPowerOfTwo (max words (loss_size 1)) ring.len → IsNextPowerOfTwo settings.tags ring.tags → ring ≡ empty_ring 1 (ring_len program settings) (ring_tags settings)
begun_sizes program settings range words ring asked is_empty has_words has_tags =
    let len = made_len program settings range words ring.len asked has_words in
    let tags = made_tags settings range ring.tags has_tags in
    is_empty ∙ (λ i. empty_ring 1 (len i) (tags i))

pub rate_offerable : (program : Parts) (settings : Settings) → AreInRange settings → IsOfferable (empty_ring 1 (ring_len program settings) (ring_tags settings)) (rate_record settings)
rate_offerable program settings range =
    ([], [], empty-follows 1 (ring_len program settings) (ring_tags settings), record { open_ring = refl; offer_fits = rate_fits program settings range; few = omega arith; words = omega arith })

-- ---- how many they are, and how many words they have

record AreFew (offers : List Offer) (n : ℕ) : Type 0 where
  pub number : length offers ≤ n
  pub words : words_for_most 1 offers ≤ 67 * n

few_more : (program : Parts) (s : State) (entry : Entry) (offers : List Offer) (n : ℕ) → AreFew offers n → AreFew (sampled_at (code_of program) s entry ++ offers) (suc n)
few_more program s (Tick w g) offers n few =
    let number = few.number in let words = few.words in let stack = stack_words program (goroutine s g) in record { number = omega arith; words = omega arith }
few_more program s (Start w g) offers n few = let number = few.number in let words = few.words in record { number = omega arith; words = omega arith }
few_more program s (Run w g k) offers n few = let number = few.number in let words = few.words in record { number = omega arith; words = omega arith }
few_more program s (Op w g) offers n few = let number = few.number in let words = few.words in record { number = omega arith; words = omega arith }
few_more program s (Park w g) offers n few = let number = few.number in let words = few.words in record { number = omega arith; words = omega arith }
few_more program s (Open epoch room) offers n few = let number = few.number in let words = few.words in record { number = omega arith; words = omega arith }
few_more program s (Refuse room k) offers n few = let number = few.number in let words = few.words in record { number = omega arith; words = omega arith }
few_more program s (Record actor g) offers n few = let number = few.number in let words = few.words in record { number = omega arith; words = omega arith }
few_more program s (Close epoch) offers n few = let number = few.number in let words = few.words in record { number = omega arith; words = omega arith }

few_from : (program : Parts) (settings : Settings) (s : State) (entries : List Entry) → AreFew (samples_from (code_of program) settings s entries) (length entries)
few_from program settings s [] = record { number = omega arith; words = omega arith }
few_from program settings s (entry ∷ entries) =
    few_more program s entry (samples_from (code_of program) settings (after (code_of program) settings s entry) entries) (length entries)
    (few_from program settings (after (code_of program) settings s entry) entries)

pub samples_number : (program : Parts) (settings : Settings) (journal : List Entry) → length (samples_of_journal (code_of program) settings journal) ≤ length journal + 1
unfolding samples_of_journal
samples_number program settings journal = let few = (few_from program settings (first (code_of program) settings) journal).number in omega arith

pub samples_words : (program : Parts) (settings : Settings) (journal : List Entry) → words_for_most 1 (samples_of_journal (code_of program) settings journal) ≤ 67 * length journal + 4
unfolding samples_of_journal
samples_words program settings journal = let few = (few_from program settings (first (code_of program) settings) journal).words in omega arith

pub entries_few : (settings : Settings) → AreInRange settings → most_entries settings < 2 ^ 23
entries_few settings range = let a = range.entries in let b = range.cells in let c = range.workers in omega arith
