use Rattle.std.proofs.Common.{◌∙◌}
use Rattle.gp_isa.proofs.Actions.{action-work, action-labels, action-call, action-send, action-recv, action-lock, action-unlock, action-spawn, action-loop}
use Rattle.gp_stack.proofs.Levels.{does_what}
use Rattle.gp_stack.proofs.statement.statement_at.Goals as goal

pub returns-in-Work-clause-ahead : goal.returns-in-Work-clause-ahead
returns-in-Work-clause-ahead c = does_what _ _ _ _ _ c.in-Some.ensures.value c.in-Work.is (action-work c.in-Work.n)

pub returns-in-Labels-clause-ahead : goal.returns-in-Labels-clause-ahead
returns-in-Labels-clause-ahead c = does_what _ _ _ _ _ c.in-Some.ensures.value c.in-Labels.is (action-labels c.in-Labels.s)

pub returns-in-Call-clause-ahead : goal.returns-in-Call-clause-ahead
returns-in-Call-clause-ahead c = does_what _ _ _ _ _ c.in-Some.ensures.value c.in-Call.is (action-call c.in-Call.f)

pub returns-in-Send-clause-ahead : goal.returns-in-Send-clause-ahead
returns-in-Send-clause-ahead c = does_what _ _ _ _ _ c.in-Some.ensures.value c.in-Send.is (action-send c.in-Send.c)

pub returns-in-Recv-clause-ahead : goal.returns-in-Recv-clause-ahead
returns-in-Recv-clause-ahead c = does_what _ _ _ _ _ c.in-Some.ensures.value c.in-Recv.is (action-recv c.in-Recv.c)

pub returns-in-Lock-clause-ahead : goal.returns-in-Lock-clause-ahead
returns-in-Lock-clause-ahead c = does_what _ _ _ _ _ c.in-Some.ensures.value c.in-Lock.is (action-lock c.in-Lock.m)

pub returns-in-Unlock-clause-ahead : goal.returns-in-Unlock-clause-ahead
returns-in-Unlock-clause-ahead c = does_what _ _ _ _ _ c.in-Some.ensures.value c.in-Unlock.is (action-unlock c.in-Unlock.m)

pub returns-in-Spawn-clause-ahead : goal.returns-in-Spawn-clause-ahead
returns-in-Spawn-clause-ahead c = does_what _ _ _ _ _ c.in-Some.ensures.value c.in-Spawn.is (action-spawn c.in-Spawn.f)

pub returns-in-Loop-clause-ahead : goal.returns-in-Loop-clause-ahead
returns-in-Loop-clause-ahead c = (c.in-Loop.end, rw (c.as_slice.ensures ∙ c.get.ensures) (does_what _ _ _ _ _ c.in-Some.ensures.value c.in-Loop.is (action-loop c.in-Loop.n c.in-Loop.body c.in-Loop.end)))
