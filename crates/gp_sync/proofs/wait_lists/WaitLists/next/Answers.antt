use Rattle.std.proofs.Common.{drop}
use Rattle.gp_sync.proofs.Standing.{within, waiters_are, with_waiters_are}
use Rattle.gp_sync.proofs.wait_lists.WaitLists.next.Goals as goal

pub pop_front-requires : goal.pop_front-requires
pop_front-requires c = within c.self.inside c.self.invariant c.args.self.now c.self.view_is c.args.list c.line-line.result c.line-line.ensures c.requires

pub returns-clause-none : goal.returns-clause-none
returns-clause-none c = rw (← waiters_are c.self.inside c.self.invariant c.args.self.now c.self.view_is c.args.list c.line-line.result c.line-line.ensures c.requires) c.pop_front.ensures.none

pub returns-clause-head : goal.returns-clause-head
returns-clause-head c = rw (← waiters_are c.self.inside c.self.invariant c.args.self.now c.self.view_is c.args.list c.line-line.result c.line-line.ensures c.requires) c.pop_front.ensures.head

pub returns-clause-rest : goal.returns-clause-rest
returns-clause-rest c = rw c.pop_front.ensures.rest (with_waiters_are c.self.inside c.self.invariant c.args.self.now c.self.view_is c.args.list c.line-line.result c.line-line.ensures c.requires (drop 1))
