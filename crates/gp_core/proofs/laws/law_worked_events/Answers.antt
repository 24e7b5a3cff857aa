use Rattle.gp_core.proofs.WorkedEventsLemmas.{refused_events, woken_core}
use Rattle.gp_core.proofs.laws.law_worked_events.Goals as goal

pub returns-clause-woken : goal.returns-clause-woken
returns-clause-woken c = woken_core

pub returns-clause-refused : goal.returns-clause-refused
returns-clause-refused c = refused_events
