use Rattle.std.proofs.Common.{arith}
use Rattle.gp_sync.proofs.Standing.{there_mutex, with_held}
use Rattle.gp_sync.proofs.wait_lists.WaitLists.set_held.Goals as goal

pub index_mut-requires : goal.index_mut-requires
index_mut-requires c =
    let lt = there_mutex c.self.inside c.self.invariant c.args.self.now c.self.view_is c.args.m c.requires in
    omega (arith, c.self.inside.held.ok)

pub returns : goal.returns
returns c = with_held c.self.inside c.self.invariant c.args.self.now c.self.view_is c.args.m c.args.held
