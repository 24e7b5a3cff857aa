use Rattle.std.proofs.Common.{refl, ap, subst}
use Rattle.gp_journal.specs.State.{code_of}
use Rattle.gp_journal.specs.declared.entry.Entry.TheVariants as entry
use Rattle.gp_sim.specs.Choice.{SoFar}
use Rattle.gp_sim.specs.kept.Simulation.{IsSimulation}
use Rattle.gp_sim.proofs.Stepping.{by_still}
use Rattle.gp_sim.proofs.simulation.Simulation.open.Goals as goal

pub invariant_of-self : goal.invariant_of-self
invariant_of-self g c =
    let j = ap (λ (s : SoFar). s.journal) c.self.view_is in
    let was = subst (λ (s : SoFar). IsSimulation (code_of g.R.Run.program) g.R.Run.settings s.journal c.self.inside.bodies) c.self.view_is c.self.invariant in
    rw (c.open.ensures, j) (by_still (code_of g.R.Run.program) g.R.Run.settings c.args.self.now.journal c.self.inside.bodies was (entry.Open c.args.epoch c.args.room) refl c.requires)
