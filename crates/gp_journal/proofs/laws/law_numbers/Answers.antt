use Rattle.gp_journal.proofs.Stamps.{clocks_are_below, epochs_are_ordered}
use Rattle.gp_journal.proofs.Totals.{entries_are_counted, numbers_hold, entries_are_bounded}
use Rattle.gp_journal.proofs.laws.law_numbers.Goals as goal

pub returns-clause-counted : goal.returns-clause-counted
returns-clause-counted c = entries_are_counted

pub returns-clause-numbers : goal.returns-clause-numbers
returns-clause-numbers c = numbers_hold

pub returns-clause-entries : goal.returns-clause-entries
returns-clause-entries c = entries_are_bounded

pub returns-clause-come : goal.returns-clause-come
returns-clause-come c = clocks_are_below

pub returns-clause-ordered : goal.returns-clause-ordered
returns-clause-ordered c = epochs_are_ordered
