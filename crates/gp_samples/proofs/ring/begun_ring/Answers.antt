use Rattle.std.proofs.Common.{sym, ap, ◌∙◌, subst}
use Rattle.gp_ring.specs.PlainRing.{written}
use Rattle.gp_ring.specs.Follows.{IsOfferable}
use Rattle.gp_cpu.specs.Samples.{rate_record}
use Rattle.gp_samples.specs.RunRing.{begun_ring}
use Rattle.gp_samples.proofs.Offers.{begun_sizes, rate_offerable}
use Rattle.gp_samples.proofs.ring.begun_ring.Goals as goal

pub write-requires : goal.write-requires
write-requires c =
    let sizes = begun_sizes c.args.program.now c.args.settings.now c.requires c.ring_words-words.result c.in_ok-ring.ring c.ring_words-words.ensures.words c.in_ok-ring.ensures.empty c.in_ok-ring.ensures.words c.in_ok-ring.ensures.tags in
    subst (λ ring. IsOfferable ring (rate_record c.args.settings.now)) (sym sizes) (rate_offerable c.args.program.now c.args.settings.now c.requires)

pub returns : goal.returns
unfolding begun_ring
returns c =
    let sizes = begun_sizes c.args.program.now c.args.settings.now c.requires c.ring_words-words.result c.in_ok-ring.ring c.ring_words-words.ensures.words c.in_ok-ring.ensures.empty c.in_ok-ring.ensures.words c.in_ok-ring.ensures.tags in
    c.write.ensures.after ∙ ap (λ ring. written ring (rate_record c.args.settings.now)) sizes
