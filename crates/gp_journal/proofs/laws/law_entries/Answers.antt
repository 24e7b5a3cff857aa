use Rattle.gp_journal.proofs.EachEntry.{others_stay, epochs_stay, queue_after, over_stays, nothing_after_complete}
use Rattle.gp_journal.proofs.laws.law_entries.Goals as goal

pub returns-clause-others : goal.returns-clause-others
returns-clause-others c = others_stay

pub returns-clause-epochs : goal.returns-clause-epochs
returns-clause-epochs c = epochs_stay

pub returns-clause-queue : goal.returns-clause-queue
returns-clause-queue c = queue_after

pub returns-clause-over : goal.returns-clause-over
returns-clause-over c = over_stays

pub returns-clause-complete : goal.returns-clause-complete
returns-clause-complete c = nothing_after_complete
