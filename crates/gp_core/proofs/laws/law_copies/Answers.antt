use Rattle.gp_core.proofs.AllEvents.{copies_are_frozen}
use Rattle.gp_core.proofs.laws.law_copies.Goals as goal

pub returns : goal.returns
returns c = copies_are_frozen
