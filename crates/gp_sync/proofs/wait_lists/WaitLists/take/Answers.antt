use Rattle.std.proofs.Common.{◌-◌, get_or, arith}
use Rattle.std.proofs.lemmas.List.{get_or_read}
use Rattle.gp_sync.proofs.Standing.{there, buffered_is, with_buffered}
use Rattle.gp_sync.proofs.wait_lists.WaitLists.take.Goals as goal

pub index_mut-requires : goal.index_mut-requires
index_mut-requires c =
    let lt = there c.self.inside c.self.invariant c.args.self.now c.self.view_is c.args.c c.requires.there in
    omega (arith, c.self.inside.buffered.ok)

pub overflow_sub-index_mut : goal.overflow_sub-index_mut
overflow_sub-index_mut c =
    let lt = there c.self.inside c.self.invariant c.args.self.now c.self.view_is c.args.c c.requires.there in
    let buffered = get_or_read c.self.inside.buffered.items c.args.c c.index_mut.result.now lt c.index_mut.ensures.value 0 in
    omega (arith, buffered, buffered_is c.self.inside c.self.invariant c.args.self.now c.self.view_is c.args.c c.requires.there, c.requires.some)

pub returns : goal.returns
returns c =
    let lt = there c.self.inside c.self.invariant c.args.self.now c.self.view_is c.args.c c.requires.there in
    let buffered = get_or_read c.self.inside.buffered.items c.args.c c.index_mut.result.now lt c.index_mut.ensures.value 0 in
    rw (buffered_is c.self.inside c.self.invariant c.args.self.now c.self.view_is c.args.c c.requires.there, buffered)
    (with_buffered c.self.inside c.self.invariant c.args.self.now c.self.view_is c.args.c (get_or c.self.inside.buffered.items c.args.c 0 - 1))
