use Rattle.std.proofs.Common.{◌≡◌, [], ◌∷◌, ◌++◌, Some, ◌∙◌, subst}
use Rattle.gp_isa.specs.Checked.{main_of}
use Rattle.gp_isa.specs.declared.parts.Parts.{Parts}
use Rattle.gp_journal.specs.Settings.{AreInRange}
use Rattle.gp_sim.proofs.Stepping.{begun}
use Rattle.gp_sim.proofs.simulation.Simulation.new.Goals as goal

pub invariant_of-result-2 : goal.invariant_of-result-2
invariant_of-result-2 g c =
    let is_main = subst (λ (p : Parts). main_of p ≡ Some c.main.result) c.requires.program c.main.ensures in
    let bodies = c.push.ensures ∙ (λ i. c.in_ok-bodies.ensures i ++ c.in_ok-newborn.ensures.progress i ∷ []) in
    rw c.in_ok-new.ensures (begun g.R.Run.program g.R.Run.settings c.main.result _ (subst AreInRange c.requires.settings c.requires.range) is_main (c.bodies-2.view_is ∙ bodies))
