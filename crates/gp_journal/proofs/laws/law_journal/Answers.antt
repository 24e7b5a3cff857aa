use Rattle.gp_journal.proofs.Law.{epochs_hold, unrecorded_stand, rows_are_frozen}
use Rattle.gp_journal.proofs.Unrecorded.{unrecorded_add_up}
use Rattle.gp_journal.proofs.laws.law_journal.Goals as goal

pub returns-clause-epochs : goal.returns-clause-epochs
returns-clause-epochs c = epochs_hold

pub returns-clause-unrecorded : goal.returns-clause-unrecorded
returns-clause-unrecorded c = unrecorded_stand

pub returns-clause-rows : goal.returns-clause-rows
returns-clause-rows c = rows_are_frozen

pub returns-clause-add_up : goal.returns-clause-add_up
returns-clause-add_up c = unrecorded_add_up
