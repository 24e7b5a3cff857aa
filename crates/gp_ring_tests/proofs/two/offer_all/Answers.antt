use Rattle.std.proofs.Common.{rules, ◌<◌, sym, subst}
use Rattle.gp_ring.specs.TwoEnds.{RingOf}
use Rattle.gp_ring_tests.specs.Driving.{IsSmall}
use Rattle.gp_ring_tests.proofs.EndsDriven.{may-number}
use Rattle.gp_ring_tests.proofs.two.offer_all.Goals as goal

pub write-requires : goal.write-requires
write-requires g c =
    let k = c.loop-number.invariant in
    let below : c.loop-number.number < c.args.samples = search rules in
    may-number c.loop-number.writer c.loop-number.number c.args.samples (subst (λ (r : RingOf). IsSmall r c.args.samples) (sym k.ring) c.requires.small) below k.offers
