-- What a driver of two ends knows stays so with each call, and what may be offered.
use Rattle.std.proofs.Common.{◌≡◌, ℕ, zero, suc, ◌+◌, ◌*◌, ◌<◌, ◌≤◌, ◌^◌, List, [], ◌∷◌, ◌++◌, length, refl, ap, sym, subst, arith, length-append}
use Rattle.std.specs.Prelude.{max}
use Rattle.gp_layout.specs.Spelling.{loss_size}
use Rattle.gp_ring.specs.Records.{Offer, words_for, words_for_most, IsOffer}
use Rattle.gp_ring.specs.TwoEnds.{RingOf, WriterEnd, ReaderEnd, MayWrite, first_writer, first_reader}
use Rattle.gp_ring_tests.specs.Driving.{DrivesEnds, IsSmall, sample, numbered}

most-append : (h : ℕ) (os : List Offer) (o : Offer) → words_for_most h (os ++ o ∷ []) ≡ words_for_most h os + max (words_for h o) (loss_size h)
most-append h [] o = omega arith
most-append h (p ∷ os) o = let e = most-append h os o in omega arith

pub may-write : (writer : WriterEnd) (reader : ReaderEnd) (offer : Offer) (offers words : ℕ) → DrivesEnds writer reader offers words → IsOffer writer.ring.hdrsize writer.ring.len offer
    → offers < 2 ^ 30 → words + max (words_for writer.ring.hdrsize offer) (loss_size writer.ring.hdrsize) < 2 ^ 30 → MayWrite writer offer
may-write writer reader offer offers words d fits few bound =
    let e = most-append writer.ring.hdrsize writer.offers offer in
    let a = d.count_most in
    let b = d.words_most in
    record { offer_fits = fits; few = omega arith; words = omega arith }

pub after-write : (old new : WriterEnd) (reader : ReaderEnd) (offer : Offer) (offers words more : ℕ) → DrivesEnds old reader offers words → new.offers ≡ old.offers ++ offer ∷ [] → new.ring ≡ old.ring
    → max (words_for old.ring.hdrsize offer) (loss_size old.ring.hdrsize) ≤ more → DrivesEnds new reader (offers + 1) (words + more)
after-write old new reader offer offers words more d os g h =
    let e = most-append old.ring.hdrsize old.offers offer in
    let l = length-append old.offers (offer ∷ []) in
    let a = d.count_most in
    let b = d.words_most in
    let count : length (old.offers ++ offer ∷ []) ≤ offers + 1 = omega arith in
    let most : words_for_most old.ring.hdrsize (old.offers ++ offer ∷ []) ≤ words + more = omega arith in
    record {
      one_ring = subst (λ (r : RingOf). r ≡ reader.ring) (sym g) d.one_ring;
      count_most = subst (λ (xs : List Offer). length xs ≤ offers + 1) (sym os) count;
      words_most = subst (λ (x : RingOf × List Offer). words_for_most x.0.hdrsize x.1 ≤ words + more) (λ i. (sym g i, sym os i)) most;
    }

-- the two ends of a new ring
pub when-new : (writer : WriterEnd) (reader : ReaderEnd) → writer ≡ first_writer writer.ring → reader ≡ first_reader writer.ring → DrivesEnds writer reader 0 0
when-new writer reader w r =
    let none : writer.offers ≡ [] = ap (λ (e : WriterEnd). e.offers) w in
    record {
      one_ring = sym (ap (λ (e : ReaderEnd). e.ring) r);
      count_most = subst (λ (os : List Offer). length os ≤ 0) (sym none) (omega arith);
      words_most = subst (λ (os : List Offer). words_for_most writer.ring.hdrsize os ≤ 0) (sym none) (omega arith);
    }

-- a call of the reader leaves its ring
pub after-read : (writer : WriterEnd) (old new : ReaderEnd) (offers words : ℕ) → DrivesEnds writer old offers words → new.ring ≡ old.ring → DrivesEnds writer new offers words
after-read writer old new offers words d g = record { one_ring = subst (λ (r : RingOf). writer.ring ≡ r) (sym g) d.one_ring; count_most = d.count_most; words_most = d.words_most }

-- ---- numbered samples

length-numbered : (n : ℕ) → length (numbered n) ≡ n
length-numbered zero = refl
length-numbered (suc n) = let l = length-append (numbered n) (sample n ∷ []) in let e = length-numbered n in omega arith

most-numbered : (n : ℕ) → words_for_most 1 (numbered n) ≡ 4 * n
most-numbered zero = refl
most-numbered (suc n) = let m = most-append 1 (numbered n) (sample n) in let e = most-numbered n in omega arith

-- the sample of the next number may be offered
pub may-number : (writer : WriterEnd) (n samples : ℕ) → IsSmall writer.ring samples → n < samples → writer.offers ≡ numbered n → MayWrite writer (sample n)
may-number writer n samples small h e =
    let one = small.header in
    let eight = small.words in
    let few = small.few in
    let l = length-numbered n in
    let m = most-numbered n in
    let a = most-append 1 (numbered n) (sample n) in
    let words : 2 * words_for_most 1 (numbered n ++ sample n ∷ []) < 2 ^ 32 = omega arith in
    record {
      offer_fits = record { header_size = sym small.header; header_tells = refl; half = omega arith };
      few = subst (λ (os : List Offer). length os < 2 ^ 30) (sym e) (omega arith);
      words = subst (λ (x : ℕ × List Offer). 2 * words_for_most x.0 (x.1 ++ sample n ∷ []) < 2 ^ 32) (λ i. (sym small.header i, sym e i)) words;
    }
