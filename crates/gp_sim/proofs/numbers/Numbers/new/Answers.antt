use Rattle.std.proofs.Common.{◌≡◌, ◌-◌, length, sym, ◌∙◌, arith}
use Rattle.gp_sim.specs.Choice.{seeded}
use Rattle.gp_sim.proofs.Generated.{no_step}
use Rattle.gp_sim.proofs.numbers.Numbers.new.Goals as goal

pub drawn-next-requires : goal.drawn-next-requires
drawn-next-requires g c =
    let none : 0 - length c.args.settings.now.picks ≡ 0 = omega arith in
    rw none (c.new-generator.ensures ∙ sym (no_step (seeded c.args.settings.now)))
