use Rattle.gp_journal.proofs.Journals.{smallest_program, woken_between, room_for_two, contended_mutex, deadlocks, fault_of_unlock, ticks, full_journal_is, small_examples}
use Rattle.gp_journal.proofs.laws.law_worked.Goals as goal

pub returns-clause-smallest : goal.returns-clause-smallest
returns-clause-smallest c = smallest_program

pub returns-clause-woken : goal.returns-clause-woken
returns-clause-woken c = woken_between

pub returns-clause-room : goal.returns-clause-room
returns-clause-room c = room_for_two

pub returns-clause-contended : goal.returns-clause-contended
returns-clause-contended c = contended_mutex

pub returns-clause-deadlock : goal.returns-clause-deadlock
returns-clause-deadlock c = deadlocks

pub returns-clause-fault : goal.returns-clause-fault
returns-clause-fault c = fault_of_unlock

pub returns-clause-ticks : goal.returns-clause-ticks
returns-clause-ticks c = ticks

pub returns-clause-full : goal.returns-clause-full
returns-clause-full c = full_journal_is

pub returns-clause-examples : goal.returns-clause-examples
returns-clause-examples c = small_examples
