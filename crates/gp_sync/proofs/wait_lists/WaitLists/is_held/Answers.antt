use Rattle.std.proofs.Common.{false, refl, arith}
use Rattle.std.proofs.lemmas.List.{get_or_read}
use Rattle.gp_sync.proofs.Standing.{there_mutex, held_is}
use Rattle.gp_sync.proofs.wait_lists.WaitLists.is_held.Goals as goal

pub index-requires : goal.index-requires
index-requires c =
    let lt = there_mutex c.self.inside c.self.invariant c.args.self.now c.self.view_is c.args.m c.requires in
    omega (arith, c.self.inside.held.ok)

pub returns : goal.returns
returns c =
    let lt = there_mutex c.self.inside c.self.invariant c.args.self.now c.self.view_is c.args.m c.requires in
    let held = get_or_read c.self.inside.held.items c.args.m c.index.result.now lt c.index.ensures false in
    rw (held_is c.self.inside c.self.invariant c.args.self.now c.self.view_is c.args.m c.requires, held) refl
