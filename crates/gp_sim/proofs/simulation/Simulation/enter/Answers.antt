use Rattle.std.proofs.Common.{ap, subst}
use Rattle.gp_journal.specs.State.{code_of}
use Rattle.gp_sim.specs.Choice.{SoFar}
use Rattle.gp_sim.specs.kept.Simulation.{IsSimulation}
use Rattle.gp_sim.proofs.Stepping.{quiet_stays, quiet_plain, by_still}
use Rattle.gp_sim.proofs.simulation.Simulation.enter.Goals as goal

pub enter-requires-clause-plain : goal.enter-requires-clause-plain
enter-requires-clause-plain g c = quiet_plain c.args.made c.requires.quiet

pub invariant_of-self : goal.invariant_of-self
invariant_of-self g c =
    let j = ap (λ (s : SoFar). s.journal) c.self.view_is in
    let was = subst (λ (s : SoFar). IsSimulation (code_of g.R.Run.program) g.R.Run.settings s.journal c.self.inside.bodies) c.self.view_is c.self.invariant in
    rw (c.enter.ensures.journal, j) (by_still (code_of g.R.Run.program) g.R.Run.settings c.args.self.now.journal c.self.inside.bodies was c.args.made (quiet_stays c.args.made c.requires.quiet) c.requires.may)
