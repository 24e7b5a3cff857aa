use Rattle.std.proofs.Common.{◌<◌, length, refl, arith}
use Rattle.std.proofs.lemmas.List.{get_or_read}
use borrow.Author.Tests.{ltb-true}
use Rattle.gp_sync.proofs.Standing.{there, capacities_are, buffered_is}
use Rattle.gp_sync.proofs.wait_lists.WaitLists.has_room.Goals as goal

pub index-requires : goal.index-requires
index-requires c =
    let lt = there c.self.inside c.self.invariant c.args.self.now c.self.view_is c.args.c c.requires in
    omega (arith, c.self.inside.buffered.ok, c.self.inside.capacities.ok, c.self.invariant.capacity_each)

pub index-requires-2 : goal.index-requires-2
index-requires-2 c =
    let lt = there c.self.inside c.self.invariant c.args.self.now c.self.view_is c.args.c c.requires in
    omega (arith, c.self.inside.buffered.ok, c.self.inside.capacities.ok, c.self.invariant.capacity_each)

pub returns-clause-answer : goal.returns-clause-answer
returns-clause-answer c =
    let lt = there c.self.inside c.self.invariant c.args.self.now c.self.view_is c.args.c c.requires in
    let lt2 : c.args.c < length c.self.inside.capacities.items = omega (arith, c.self.invariant.capacity_each) in
    let buffered = get_or_read c.self.inside.buffered.items c.args.c c.index.result.now lt c.index.ensures 0 in
    let capacity = get_or_read c.self.inside.capacities.items c.args.c c.index-2.result.now lt2 c.index-2.ensures 0 in
    rw (buffered_is c.self.inside c.self.invariant c.args.self.now c.self.view_is c.args.c c.requires, capacities_are c.self.inside c.self.invariant c.args.self.now c.self.view_is, buffered, capacity) refl

pub returns-clause-fits : goal.returns-clause-fits
returns-clause-fits c =
    λ yes.
    let lt = there c.self.inside c.self.invariant c.args.self.now c.self.view_is c.args.c c.requires in
    let buffered = get_or_read c.self.inside.buffered.items c.args.c c.index.result.now lt c.index.ensures 0 in
    let below = ltb-true _ _ yes in
    rw (buffered_is c.self.inside c.self.invariant c.args.self.now c.self.view_is c.args.c c.requires) (omega (arith, buffered, below))
