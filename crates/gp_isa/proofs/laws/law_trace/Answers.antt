use Rattle.gp_isa.proofs.Depth.{traces_are_whole, traces_follow_calls}
use Rattle.gp_isa.proofs.NamedThere.{traces_name_what_is_there, trace-past}
use Rattle.gp_isa.proofs.Examples.{loop_of_a_call, first_of_a_circle}
use Rattle.gp_isa.proofs.laws.law_trace.Goals as goal

pub returns-clause-whole : goal.returns-clause-whole
returns-clause-whole c = traces_are_whole

pub returns-clause-calls : goal.returns-clause-calls
returns-clause-calls c = traces_follow_calls

pub returns-clause-worked : goal.returns-clause-worked
returns-clause-worked c = loop_of_a_call

pub returns-clause-circular : goal.returns-clause-circular
returns-clause-circular c = first_of_a_circle

pub returns-clause-names : goal.returns-clause-names
returns-clause-names c = traces_name_what_is_there

pub returns-clause-elsewhere : goal.returns-clause-elsewhere
returns-clause-elsewhere c = trace-past
