use Rattle.gp_sync.specs.declared.wait_list.WaitList.TheVariants.{Lockers}
use Rattle.gp_sync.proofs.Standing.{within, waiters_are}
use Rattle.gp_sync.proofs.wait_lists.WaitLists.first_waiter.Goals as goal

pub front-requires : goal.front-requires
front-requires c = within c.self.inside c.self.invariant c.args.self.now c.self.view_is (Lockers c.args.m) c.line.result c.line.ensures c.requires

pub returns : goal.returns
returns c = rw (← waiters_are c.self.inside c.self.invariant c.args.self.now c.self.view_is (Lockers c.args.m) c.line.result c.line.ensures c.requires) c.front.ensures
