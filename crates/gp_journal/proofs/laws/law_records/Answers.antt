use Rattle.gp_journal.proofs.RecordsNamed.{records_are_there}
use Rattle.gp_journal.proofs.Recorded.{records_grow, records_are_counted, records_are_frozen}
use Rattle.gp_journal.proofs.laws.law_records.Goals as goal

pub returns-clause-grow : goal.returns-clause-grow
returns-clause-grow c = records_grow

pub returns-clause-counted : goal.returns-clause-counted
returns-clause-counted c = records_are_counted

pub returns-clause-frozen : goal.returns-clause-frozen
returns-clause-frozen c = records_are_frozen

pub returns-clause-there : goal.returns-clause-there
returns-clause-there c = records_are_there
