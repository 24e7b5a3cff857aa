use Rattle.std.proofs.Common.{ap, subst}
use Rattle.gp_journal.specs.State.{code_of}
use Rattle.gp_sim.specs.Choice.{SoFar}
use Rattle.gp_sim.specs.kept.Simulation.{IsSimulation}
use Rattle.gp_sim.proofs.Stepping.{runner_has_body, points_ahead, ran}
use Rattle.gp_sim.proofs.simulation.Simulation.run.Goals as goal

pub advance-requires-clause-born : goal.advance-requires-clause-born
advance-requires-clause-born g c =
    let was = subst (λ (s : SoFar). IsSimulation (code_of g.R.Run.program) g.R.Run.settings s.journal c.self.inside.bodies) c.self.view_is c.self.invariant in
    runner_has_body g.R.Run.program g.R.Run.settings c.args.self.now.journal c.self.inside.bodies was c.args.w c.args.g c.requires.may.runs

pub advance-requires-clause-ahead : goal.advance-requires-clause-ahead
advance-requires-clause-ahead g c =
    let was = subst (λ (s : SoFar). IsSimulation (code_of g.R.Run.program) g.R.Run.settings s.journal c.self.inside.bodies) c.self.view_is c.self.invariant in
    points_ahead g.R.Run.program g.R.Run.settings c.args.self.now.journal c.self.inside.bodies was c.args.w c.args.g c.args.n c.requires.may

pub invariant_of-self : goal.invariant_of-self
invariant_of-self g c =
    let j = ap (λ (s : SoFar). s.journal) c.self.view_is in
    let was = subst (λ (s : SoFar). IsSimulation (code_of g.R.Run.program) g.R.Run.settings s.journal c.self.inside.bodies) c.self.view_is c.self.invariant in
    rw (c.enter.ensures.journal, c.advance.ensures, j) (ran g.R.Run.program g.R.Run.settings c.args.self.now.journal c.self.inside.bodies was c.args.w c.args.g c.args.n c.requires.may)
