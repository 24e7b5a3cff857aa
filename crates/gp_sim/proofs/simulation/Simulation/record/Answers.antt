use Rattle.std.proofs.Common.{refl, ap, subst}
use Rattle.gp_journal.specs.State.{code_of}
use Rattle.gp_journal.specs.declared.entry.Entry.TheVariants as entry
use Rattle.gp_sim.specs.Choice.{SoFar}
use Rattle.gp_sim.specs.kept.Simulation.{IsSimulation}
use Rattle.gp_sim.proofs.Stepping.{by_still, recorded_has_body, recorded_row}
use Rattle.gp_sim.proofs.simulation.Simulation.record.Goals as goal

pub record-requires-clause-born : goal.record-requires-clause-born
record-requires-clause-born g c =
    let was = subst (λ (s : SoFar). IsSimulation (code_of g.R.Run.program) g.R.Run.settings s.journal c.self.inside.bodies) c.self.view_is c.self.invariant in
    recorded_has_body g.R.Run.program g.R.Run.settings c.args.self.now.journal c.self.inside.bodies was c.args.actor c.args.g c.requires.may

pub record-requires-2-clause-copy : goal.record-requires-2-clause-copy
record-requires-2-clause-copy g c =
    let j = ap (λ (s : SoFar). s.journal) c.self.view_is in
    let was = subst (λ (s : SoFar). IsSimulation (code_of g.R.Run.program) g.R.Run.settings s.journal c.self.inside.bodies) c.self.view_is c.self.invariant in
    rw j (recorded_row g.R.Run.program g.R.Run.settings c.args.self.now.journal c.self.inside.bodies was c.args.actor c.args.g c.in_ok-copy.copy c.requires.may c.in_ok-copy.ensures)

pub invariant_of-self : goal.invariant_of-self
invariant_of-self g c =
    let j = ap (λ (s : SoFar). s.journal) c.self.view_is in
    let was = subst (λ (s : SoFar). IsSimulation (code_of g.R.Run.program) g.R.Run.settings s.journal c.self.inside.bodies) c.self.view_is c.self.invariant in
    rw (c.record-2.ensures, j) (by_still (code_of g.R.Run.program) g.R.Run.settings c.args.self.now.journal c.self.inside.bodies was (entry.Record c.args.actor c.args.g) refl c.requires.may)
