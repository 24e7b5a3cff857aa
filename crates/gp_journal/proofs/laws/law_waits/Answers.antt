use Rattle.gp_journal.proofs.Waits.{waits_grow, contentions_grow, waits_are_foreseen, waits_are_short}
use Rattle.gp_journal.proofs.laws.law_waits.Goals as goal

pub returns-clause-ended : goal.returns-clause-ended
returns-clause-ended c = waits_grow

pub returns-clause-contended : goal.returns-clause-contended
returns-clause-contended c = contentions_grow

pub returns-clause-foreseen : goal.returns-clause-foreseen
returns-clause-foreseen c = waits_are_foreseen

pub returns-clause-short : goal.returns-clause-short
returns-clause-short c = waits_are_short
