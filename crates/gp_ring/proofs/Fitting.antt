-- What may be offered fits the words of the ring.
use Rattle.std.proofs.Common.{ℕ, ◌+◌, ◌*◌, ◌<◌, ◌≤◌, ◌^◌, List, [], ◌∷◌, ◌++◌, length, arith}
use Rattle.gp_layout.specs.Spelling.{loss_size}
use Rattle.gp_ring.specs.Records.{Offer, words_for_most}
use Rattle.gp_ring.specs.PlainRing.{PlainRing}
use Rattle.gp_ring.specs.Follows.{IsOfferable}
use Rattle.gp_ring.specs.Offered.{NumbersFit}
use Rattle.gp_ring.proofs.Heads.{most-append}

-- each offer counts as three words and more
three_each : (h : ℕ) (os : List Offer) → 3 * length os ≤ words_for_most h os
three_each h [] = omega arith
three_each h (o ∷ os) = let e = three_each h os in omega arith

pub offerable-fits : (ring : PlainRing) (o : Offer) → IsOfferable ring o → NumbersFit ring o
offerable-fits ring o i =
    let os = i.0 in
    let f = i.2 in
    let m = i.3 in
    let e = most-append ring.hdrsize i.0 o in
    let t = three_each ring.hdrsize i.0 in
    let w : 2 * words_for_most ring.hdrsize (i.0 ++ o ∷ []) < 2 ^ 32 = m.words in
    let a : ring.written_words ≤ 2 * words_for_most ring.hdrsize i.0 = f.words in
    let b : 0 < ring.pending → ring.written_words + 2 * loss_size ring.hdrsize ≤ 2 * words_for_most ring.hdrsize i.0 = f.words_pending in
    let c : ring.written_tags + ring.pending ≤ length i.0 = f.tags in
    let d : ring.change ≤ 2 * length i.0 = f.change in
    record {
      offer_fits = m.offer_fits;
      words = omega arith;
      words_pending = λ h. (let p = b h in omega arith);
      tags = omega arith;
      pending = omega arith;
      change = omega arith;
    }
