use Rattle.gp_core.proofs.AllEvents.{invariant_holds}
use Rattle.gp_core.proofs.laws.law_invariant.Goals as goal

pub returns : goal.returns
returns c = invariant_holds
