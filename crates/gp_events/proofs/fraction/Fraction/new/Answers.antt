use Rattle.std.proofs.Common.{◌≡◌, ◌+◌, sym, ap, ◌∙◌}
use Rattle.rand_pcg.specs.Lcg.{Lcg, next, advance}
use Rattle.rand_pcg.specs.Pcg.{multiplier_64, output_xsh_rr, pcg32}
use Rattle.gp_events.specs.Fraction.{generator, word}
use Rattle.gp_events.proofs.Words.{no_step, one_step, word_is}
use Rattle.gp_events.proofs.fraction.Fraction.new.Goals as goal

pub returns : goal.returns
returns c =
    let begins : c.new-generator.result ≡ advance 64 multiplier_64 0 (generator c.args.seed) = c.new-generator.ensures ∙ sym (no_step (generator c.args.seed)) in
    let first : (pcg32 c.new-generator.result).0 ≡ word c.args.seed 0 = ap (λ (g : Lcg). output_xsh_rr g.state) begins ∙ sym (word_is c.args.seed 0) in
    let behind : (pcg32 c.new-generator.result).1 ≡ advance 64 multiplier_64 (0 + 1) (generator c.args.seed) = ap (next 64 multiplier_64) begins ∙ sym (one_step 0 (generator c.args.seed)) in
    λ i. record {
      f = c.args.f;
      word = (ap (λ p. p.0) c.next_word-word.ensures ∙ first) i;
      behind = (ap (λ p. p.1) c.next_word-word.ensures ∙ behind) i;
    }
