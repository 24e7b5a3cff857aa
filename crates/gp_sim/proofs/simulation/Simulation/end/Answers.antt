use Rattle.std.proofs.Common.{◌++◌, length, ap, ◌∙◌, arith}
use Rattle.gp_ring.specs.PlainRing.{closed}
use Rattle.gp_samples.specs.RunRing.{taken_to_end}
use Rattle.gp_sim.specs.Choice.{SoFar}
use Rattle.gp_sim.proofs.simulation.Simulation.end.Goals as goal

pub overflow_add-result : goal.overflow_add-result
overflow_add-result g c = let few = c.requires.few in let reads = c.in_ok-reads.ensures.most in omega arith

pub returns-clause-cpu : goal.returns-clause-cpu
returns-clause-cpu g c = c.in_ok-reads.ensures.records ∙ ap (λ (s : SoFar). s.records ++ taken_to_end 3 (closed s.ring)) c.self.view_is

pub returns-clause-turns : goal.returns-clause-turns
returns-clause-turns g c =
    let same = ap (λ (s : SoFar). length (taken_to_end 3 (closed s.ring))) c.self.view_is in
    let each = c.in_ok-reads.ensures.each in
    omega arith
