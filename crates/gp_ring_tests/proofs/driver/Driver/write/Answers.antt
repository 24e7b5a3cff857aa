use Rattle.std.proofs.Common.{◌≡◌, ◌+◌, ◌*◌, ◌<◌, ◌≤◌, ◌^◌, sym, ◌∙◌, false, length, arith}
use Rattle.std.specs.Prelude.{max}
use Rattle.gp_layout.specs.Spelling.{loss_size}
use Rattle.gp_ring.specs.Records.{all_zero, words_for}
use Rattle.gp_ring.specs.Offered.{offer_of}
use Rattle.gp_ring_tests.proofs.Driven.{may-offer, after-write, first-tells}
use Rattle.gp_ring_tests.proofs.driver.Driver.write.Goals as goal

pub write-requires : goal.write-requires
write-requires c =
    let ring = c.self.inside.ring in
    let offer = offer_of c.args.tag c.args.time c.split_at.result.0.now c.split_at.result.1.now in
    let h : length c.split_at.result.0.now ≡ ring.hdrsize = c.split_at.ensures.front_len ∙ c.hdrsize-hdrsize.ensures in
    let tells : all_zero c.split_at.result.0.now ≡ false =
    first-tells c.split_at.result.0.now c.in_ok-first.field-0.now c.in_ok-first.ensures.value (omega (arith, c.if-branch-eq0.false)) in
    let half : 2 * words_for ring.hdrsize offer ≤ ring.len = omega (arith, c.if-need-len.false, c.hdrsize-hdrsize.ensures, c.len.ensures) in
    let few : c.self.inside.offers < 2 ^ 30 = omega (arith, c.if-self.false) in
    let bound : c.self.inside.words + max (words_for ring.hdrsize offer) (loss_size ring.hdrsize) < 2 ^ 30 = omega (arith, c.if-self-2.false, c.if-rest.false, c.hdrsize-hdrsize.ensures, c.if-rest-hdrsize.false, c.split_at.ensures.back_len) in
    may-offer ring offer c.self.inside.offers c.self.inside.words c.self.inside.looked c.self.invariant (sym c.is_closed.ensures ∙ c.if-is_closed.false)
    (record { header_size = h; header_tells = tells; half = half }) few bound

pub invariant_of-self : goal.invariant_of-self
invariant_of-self c =
    let ring = c.self.inside.ring in
    let offer = offer_of c.args.tag c.args.time c.split_at.result.0.now c.split_at.result.1.now in
    let most : max (words_for ring.hdrsize offer) (loss_size ring.hdrsize) ≤ c.max-most.result = omega (arith, c.max-most.ensures, c.hdrsize-hdrsize.ensures) in
    after-write ring c.write.new.self offer c.self.inside.offers c.self.inside.words c.max-most.result c.self.inside.looked c.self.invariant
    c.write.ensures.after c.write.ensures.follows most
