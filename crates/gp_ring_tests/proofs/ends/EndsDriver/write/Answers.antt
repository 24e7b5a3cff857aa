use Rattle.std.proofs.Common.{◌≡◌, ◌+◌, ◌*◌, ◌<◌, ◌≤◌, ◌^◌, ◌∙◌, false, length, arith}
use Rattle.std.specs.Prelude.{max}
use Rattle.gp_layout.specs.Spelling.{loss_size}
use Rattle.gp_ring.specs.Records.{all_zero, words_for}
use Rattle.gp_ring.specs.Offered.{offer_of}
use Rattle.gp_ring_tests.proofs.Driven.{first-tells}
use Rattle.gp_ring_tests.proofs.EndsDriven.{may-write, after-write}
use Rattle.gp_ring_tests.proofs.ends.EndsDriver.write.Goals as goal

pub write-requires : goal.write-requires
write-requires c =
    let writer = c.self.inside.writer in
    let offer = offer_of c.args.tag c.args.time c.split_at.result.0.now c.split_at.result.1.now in
    let h : length c.split_at.result.0.now ≡ writer.ring.hdrsize = c.split_at.ensures.front_len ∙ c.hdrsize-hdrsize.ensures in
    let tells : all_zero c.split_at.result.0.now ≡ false =
    first-tells c.split_at.result.0.now c.in_ok-first.field-0.now c.in_ok-first.ensures.value (omega (arith, c.if-branch-eq0.false)) in
    let half : 2 * words_for writer.ring.hdrsize offer ≤ writer.ring.len = omega (arith, c.if-need-len.false, c.hdrsize-hdrsize.ensures, c.len.ensures) in
    let few : c.self.inside.offers < 2 ^ 30 = omega (arith, c.if-self.false) in
    let bound : c.self.inside.words + max (words_for writer.ring.hdrsize offer) (loss_size writer.ring.hdrsize) < 2 ^ 30 = omega (arith, c.if-self-2.false, c.if-rest.false, c.hdrsize-hdrsize.ensures, c.if-rest-hdrsize.false, c.split_at.ensures.back_len) in
    may-write writer c.self.inside.reader offer c.self.inside.offers c.self.inside.words c.self.invariant (record { header_size = h; header_tells = tells; half = half }) few bound

pub invariant_of-self : goal.invariant_of-self
invariant_of-self c =
    let writer = c.self.inside.writer in
    let offer = offer_of c.args.tag c.args.time c.split_at.result.0.now c.split_at.result.1.now in
    let most : max (words_for writer.ring.hdrsize offer) (loss_size writer.ring.hdrsize) ≤ c.max-most.result = omega (arith, c.max-most.ensures, c.hdrsize-hdrsize.ensures) in
    after-write writer c.write.new.self c.self.inside.reader offer c.self.inside.offers c.self.inside.words c.max-most.result c.self.invariant c.write.ensures.offers c.write.ensures.ring most
