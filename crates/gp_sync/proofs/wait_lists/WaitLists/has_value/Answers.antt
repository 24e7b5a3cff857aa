use Rattle.std.proofs.Common.{refl, arith}
use Rattle.std.proofs.lemmas.List.{get_or_read}
use Rattle.gp_sync.proofs.Standing.{there, buffered_is}
use Rattle.gp_sync.proofs.wait_lists.WaitLists.has_value.Goals as goal

pub index-requires : goal.index-requires
index-requires c =
    let lt = there c.self.inside c.self.invariant c.args.self.now c.self.view_is c.args.c c.requires in
    omega (arith, c.self.inside.buffered.ok)

pub returns : goal.returns
returns c =
    let lt = there c.self.inside c.self.invariant c.args.self.now c.self.view_is c.args.c c.requires in
    let buffered = get_or_read c.self.inside.buffered.items c.args.c c.index.result.now lt c.index.ensures 0 in
    rw (buffered_is c.self.inside c.self.invariant c.args.self.now c.self.view_is c.args.c c.requires, buffered) refl
