use Rattle.gp_journal.proofs.Clocks.{wait_lists_tell_clocks}
use Rattle.gp_journal.proofs.OnWorkers.{statuses_match_workers}
use Rattle.gp_journal.proofs.QueueLaw.{queue_holds_runnable}
use Rattle.gp_journal.proofs.Totals.{prefixes_are_legal, born_in_order, each_waits_once, refuse_leaves_all, runs_end_one_way}
use Rattle.gp_journal.proofs.laws.law_runs.Goals as goal

pub returns-clause-prefixes : goal.returns-clause-prefixes
returns-clause-prefixes c = prefixes_are_legal

pub returns-clause-births : goal.returns-clause-births
returns-clause-births c = born_in_order

pub returns-clause-workers : goal.returns-clause-workers
returns-clause-workers c = statuses_match_workers

pub returns-clause-waits : goal.returns-clause-waits
returns-clause-waits c = each_waits_once

pub returns-clause-refused : goal.returns-clause-refused
returns-clause-refused c = refuse_leaves_all

pub returns-clause-ends : goal.returns-clause-ends
returns-clause-ends c = runs_end_one_way

pub returns-clause-clocks : goal.returns-clause-clocks
returns-clause-clocks c = wait_lists_tell_clocks

pub returns-clause-queue : goal.returns-clause-queue
returns-clause-queue c = queue_holds_runnable
