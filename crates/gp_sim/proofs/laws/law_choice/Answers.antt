use Rattle.std.proofs.Common.{refl}
use Rattle.gp_journal.specs.Run.{last}
use Rattle.gp_sim.proofs.Complete.{none_enabled}
use Rattle.gp_sim.proofs.Enabled.{actions_may, chosen_may}
use Rattle.gp_sim.proofs.Turns.{sim_is_finished, sim_is_covered, sim_begins_with_head}
use Rattle.gp_sim.proofs.laws.law_choice.Goals as goal

pub returns-clause-legal : goal.returns-clause-legal
returns-clause-legal c = λ code settings journal range legal.
    actions_may code settings (last code settings journal) (record { journal = journal; legal = legal; its_last = refl }) range

pub returns-clause-turns : goal.returns-clause-turns
returns-clause-turns c = λ code settings journal reads taken turn range legal.
    chosen_may code settings (last code settings journal) (record { journal = journal; legal = legal; its_last = refl }) range reads taken turn

pub returns-clause-ends : goal.returns-clause-ends
returns-clause-ends c = λ code settings journal range legal.
    none_enabled code settings (last code settings journal) (record { journal = journal; legal = legal; its_last = refl }) range

pub returns-clause-finished : goal.returns-clause-finished
returns-clause-finished c = sim_is_finished

pub returns-clause-covered : goal.returns-clause-covered
returns-clause-covered c = sim_is_covered

pub returns-clause-head : goal.returns-clause-head
returns-clause-head c = sim_begins_with_head
