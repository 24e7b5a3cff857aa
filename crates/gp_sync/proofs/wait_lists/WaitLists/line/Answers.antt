use Rattle.std.proofs.Common.{◌≡◌, length, refl, arith}
use Rattle.gp_sync.specs.declared.wait_list.WaitList.TheVariants.{Receivers, Lockers}
use Rattle.gp_sync.proofs.Standing.{within, as_many}
use Rattle.gp_sync.proofs.wait_lists.WaitLists.line.Goals as goal

pub overflow_add-result : goal.overflow_add-result
overflow_add-result c =
    let channels : c.len-channels.result ≡ length c.args.self.now.channels = as_many c.self.inside c.self.invariant c.args.self.now c.self.view_is c.len-channels.result c.len-channels.ensures in
    let below = within c.self.inside c.self.invariant c.args.self.now c.self.view_is (Receivers c.in-Receivers.c) _ refl (rw c.in-Receivers.is at c.requires) in
    omega (arith, below, c.self.invariant.few)

pub overflow_add-result-in-Lockers : goal.overflow_add-result-in-Lockers
overflow_add-result-in-Lockers c =
    let channels : c.len-channels.result ≡ length c.args.self.now.channels = as_many c.self.inside c.self.invariant c.args.self.now c.self.view_is c.len-channels.result c.len-channels.ensures in
    let below = within c.self.inside c.self.invariant c.args.self.now c.self.view_is (Lockers c.in-Lockers.m) _ refl (rw c.in-Lockers.is at c.requires) in
    omega (arith, below, c.self.invariant.few)

pub overflow_add-result-in-Lockers-2 : goal.overflow_add-result-in-Lockers-2
overflow_add-result-in-Lockers-2 c =
    let channels : c.len-channels.result ≡ length c.args.self.now.channels = as_many c.self.inside c.self.invariant c.args.self.now c.self.view_is c.len-channels.result c.len-channels.ensures in
    let below = within c.self.inside c.self.invariant c.args.self.now c.self.view_is (Lockers c.in-Lockers.m) _ refl (rw c.in-Lockers.is at c.requires) in
    omega (arith, below, c.self.invariant.few)

pub returns-in-Receivers : goal.returns-in-Receivers
returns-in-Receivers c =
    rw (c.in-Receivers.is, as_many c.self.inside c.self.invariant c.args.self.now c.self.view_is c.len-channels.result c.len-channels.ensures) refl

pub returns-in-Lockers : goal.returns-in-Lockers
returns-in-Lockers c =
    rw (c.in-Lockers.is, as_many c.self.inside c.self.invariant c.args.self.now c.self.view_is c.len-channels.result c.len-channels.ensures) refl
