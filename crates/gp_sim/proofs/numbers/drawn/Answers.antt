use Rattle.std.proofs.Common.{◌≡◌, ◌+◌, ◌-◌, ◌<◌, slice_get, length, None, Some, sym, ap, ◌∙◌, arith}
use Rattle.std.proofs.lemmas.Option.{slice_get_within}
use Rattle.rand_pcg.specs.Lcg.{advance}
use Rattle.rand_pcg.specs.Pcg.{multiplier_64}
use Rattle.gp_sim.specs.Choice.{seeded}
use Rattle.gp_sim.proofs.Generated.{picked, drawn}
use Rattle.gp_sim.proofs.numbers.drawn.Goals as goal

pub returns-in-Some-clause-number : goal.returns-in-Some-clause-number
returns-in-Some-clause-number c =
    picked c.args.settings.now c.args.k c.in-Some.pick (sym c.get.ensures ∙ sym c.copied.ensures ∙ c.in-Some.is)

pub returns-in-Some-clause-behind : goal.returns-in-Some-clause-behind
returns-in-Some-clause-behind c =
    let some : slice_get c.args.settings.now.picks c.args.k ≡ Some c.in-Some.pick = sym c.get.ensures ∙ sym c.copied.ensures ∙ c.in-Some.is in
    let within : c.args.k < length c.args.settings.now.picks = slice_get_within c.args.settings.now.picks c.args.k c.in-Some.pick some in
    let same : c.args.k - length c.args.settings.now.picks ≡ c.args.k + 1 - length c.args.settings.now.picks = omega (arith, within) in
    c.requires ∙ ap (λ n. advance 64 multiplier_64 n (seeded c.args.settings.now)) same

pub returns-in-None-clause-number : goal.returns-in-None-clause-number
returns-in-None-clause-number c =
    let none : slice_get c.args.settings.now.picks c.args.k ≡ None = sym c.get.ensures ∙ sym c.copied.ensures ∙ c.in-None.is in
    ap (λ p. p.0) c.next_word.ensures ∙ (drawn c.args.settings.now c.args.k c.args.generator.now none c.requires).0

pub returns-in-None-clause-behind : goal.returns-in-None-clause-behind
returns-in-None-clause-behind c =
    let none : slice_get c.args.settings.now.picks c.args.k ≡ None = sym c.get.ensures ∙ sym c.copied.ensures ∙ c.in-None.is in
    ap (λ p. p.1) c.next_word.ensures ∙ (drawn c.args.settings.now c.args.k c.args.generator.now none c.requires).1
