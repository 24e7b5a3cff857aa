use Rattle.std.proofs.Common.{ap}
use Rattle.gp_journal.specs.State.{code_of}
use Rattle.gp_journal.specs.Run.{last}
use Rattle.gp_ring.specs.PlainRing.{has_more}
use Rattle.gp_sim.specs.Choice.{SoFar}
use Rattle.gp_sim.proofs.Enabled.{chosen_may}
use Rattle.gp_sim.proofs.Stepping.{reached}
use Rattle.gp_sim.proofs.simulation.Simulation.turn.Goals as goal

pub carry_out-requires-clause-may : goal.carry_out-requires-clause-may
carry_out-requires-clause-may g c =
    let j = ap (λ (s : SoFar). s.journal) c.self.view_is in
    let now = last (code_of g.R.Run.program) g.R.Run.settings c.self.inside.history in
    rw (← j)
    (chosen_may (code_of g.R.Run.program) g.R.Run.settings now (reached (code_of g.R.Run.program) g.R.Run.settings c.self.inside.history c.self.inside.bodies c.self.invariant) c.self.invariant.in_range
    (has_more c.self.inside.ring) c.self.inside.numbers c.in-Some.field-0.turn (rw c.machine-machine.ensures at c.in-Some.ensures.turn))
