use Rattle.std.proofs.Common.{List, [], ◌∷◌, ◌++◌}
use Rattle.gp_sync.specs.declared.effect.Waiter.{Waiter}
use Rattle.gp_sync.specs.Operations.{waiter}
use Rattle.gp_sync.proofs.Standing.{nowhere, within, with_waiters_are}
use Rattle.gp_sync.proofs.wait_lists.WaitLists.wait.Goals as goal

pub push_back-requires-clause-there : goal.push_back-requires-clause-there
push_back-requires-clause-there c = within c.self.inside c.self.invariant c.args.self.now c.self.view_is c.args.list c.line-line.result c.line-line.ensures c.requires.there

pub push_back-requires-clause-waits_nowhere : goal.push_back-requires-clause-waits_nowhere
push_back-requires-clause-waits_nowhere c = nowhere c.self.inside c.self.invariant c.args.self.now c.self.view_is c.args.g c.requires.waits_nowhere

pub returns : goal.returns
returns c =
    rw c.push_back.ensures (with_waiters_are c.self.inside c.self.invariant c.args.self.now c.self.view_is c.args.list c.line-line.result c.line-line.ensures c.requires.there (λ (row : List Waiter). row ++ waiter c.args.g c.args.clock ∷ []))
