use Rattle.std.proofs.Common.{length, arith, ap}
use Rattle.std.proofs.lemmas.List.{get_or_read}
use Rattle.std.specs.Vec.{with_items}
use Rattle.gp_machine.proofs.Rings.{head_within}
use Rattle.gp_machine.proofs.Queued.{has_room, fronted}
use Rattle.gp_machine.proofs.Written.{written}
use Rattle.gp_machine.proofs.queue.Queue.push_front.Goals as goal

pub join-requires-2-clause-behind : goal.join-requires-2-clause-behind
join-requires-2-clause-behind c =
    let inside = c.self.inside in
    let ring = c.self.invariant in
    let head = get_or_read inside.next.items inside.end c.index-head.result.now (omega (arith, ring.nexts)) c.index-head.ensures 0 in
    omega (arith, head, head_within inside.next.items inside.prev.items inside.end inside.len ring, ring.prevs, ap length c.deref_mut-4.ensures.value)

pub overflow_add-self : goal.overflow_add-self
overflow_add-self c =
    let inside = c.self.inside in
    let room = has_room inside.next.items inside.prev.items inside.end inside.len c.self.invariant c.args.self.now c.self.view_is c.args.g c.requires.within c.requires.absent in
    omega (arith, room, c.type_inv.end)

pub invariant_of-self : goal.invariant_of-self
invariant_of-self c =
    let inside = c.self.inside in
    let ring = c.self.invariant in
    let one_next = with_items inside.next c.join.new.next in
    let one_prev = with_items inside.prev c.join.new.prev in
    let head = get_or_read inside.next.items inside.end c.index-head.result.now (omega (arith, ring.nexts)) c.index-head.ensures 0 in
    let next = written inside.next c.deref_mut.result.now c.join.new.next inside.end c.args.g c.join.ensures.next c.deref_mut.ensures.value c.deref_mut.ensures.len in
    let next' = written one_next c.deref_mut-3.result.now c.join-2.new.next c.args.g c.index-head.result.now c.join-2.ensures.next c.deref_mut-3.ensures.value c.deref_mut-3.ensures.len in
    let prev = written inside.prev c.deref_mut-2.result.now c.join.new.prev c.args.g inside.end c.join.ensures.prev c.deref_mut-2.ensures.value c.deref_mut-2.ensures.len in
    let prev' = written one_prev c.deref_mut-4.result.now c.join-2.new.prev c.index-head.result.now c.args.g c.join-2.ensures.prev c.deref_mut-4.ensures.value c.deref_mut-4.ensures.len in
    (fronted inside.next.items inside.prev.items inside.end inside.len ring c.args.self.now c.self.view_is c.args.g c.requires.within c.requires.absent
    c.index-head.result.now one_next.items (with_items one_next c.join-2.new.next).items one_prev.items (with_items one_prev c.join-2.new.prev).items head next next' prev prev').0

pub returns : goal.returns
returns c =
    let inside = c.self.inside in
    let ring = c.self.invariant in
    let one_next = with_items inside.next c.join.new.next in
    let one_prev = with_items inside.prev c.join.new.prev in
    let head = get_or_read inside.next.items inside.end c.index-head.result.now (omega (arith, ring.nexts)) c.index-head.ensures 0 in
    let next = written inside.next c.deref_mut.result.now c.join.new.next inside.end c.args.g c.join.ensures.next c.deref_mut.ensures.value c.deref_mut.ensures.len in
    let next' = written one_next c.deref_mut-3.result.now c.join-2.new.next c.args.g c.index-head.result.now c.join-2.ensures.next c.deref_mut-3.ensures.value c.deref_mut-3.ensures.len in
    let prev = written inside.prev c.deref_mut-2.result.now c.join.new.prev c.args.g inside.end c.join.ensures.prev c.deref_mut-2.ensures.value c.deref_mut-2.ensures.len in
    let prev' = written one_prev c.deref_mut-4.result.now c.join-2.new.prev c.index-head.result.now c.args.g c.join-2.ensures.prev c.deref_mut-4.ensures.value c.deref_mut-4.ensures.len in
    (fronted inside.next.items inside.prev.items inside.end inside.len ring c.args.self.now c.self.view_is c.args.g c.requires.within c.requires.absent
    c.index-head.result.now one_next.items (with_items one_next c.join-2.new.next).items one_prev.items (with_items one_prev c.join-2.new.prev).items head next next' prev prev').1
