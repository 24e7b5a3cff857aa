use Rattle.std.proofs.Common.{length, arith, ap}
use Rattle.std.proofs.lemmas.List.{get_or_read}
use Rattle.std.specs.Vec.{with_items}
use Rattle.gp_machine.proofs.Rings.{tail_within}
use Rattle.gp_machine.proofs.Queued.{has_room, pushed}
use Rattle.gp_machine.proofs.Written.{written}
use Rattle.gp_machine.proofs.queue.Queue.push_back.Goals as goal

pub join-requires-clause-before : goal.join-requires-clause-before
join-requires-clause-before c =
    let inside = c.self.inside in
    let ring = c.self.invariant in
    let tail = get_or_read inside.prev.items inside.end c.index-tail.result.now (omega (arith, ring.prevs)) c.index-tail.ensures 0 in
    omega (arith, tail, tail_within inside.next.items inside.prev.items inside.end inside.len ring, ring.nexts, ap length c.deref_mut.ensures.value)

pub overflow_add-self : goal.overflow_add-self
overflow_add-self c =
    let inside = c.self.inside in
    let room = has_room inside.next.items inside.prev.items inside.end inside.len c.self.invariant c.args.self.now c.self.view_is c.args.g c.requires.within c.requires.absent in
    omega (arith, room, c.type_inv.end)

pub invariant_of-self : goal.invariant_of-self
invariant_of-self c =
    let inside = c.self.inside in
    let ring = c.self.invariant in
    let tail = get_or_read inside.prev.items inside.end c.index-tail.result.now (omega (arith, ring.prevs)) c.index-tail.ensures 0 in
    let next = written inside.next c.deref_mut.result.now c.join.new.next c.index-tail.result.now c.args.g c.join.ensures.next c.deref_mut.ensures.value c.deref_mut.ensures.len in
    let next' = written (with_items inside.next c.join.new.next) c.deref_mut-3.result.now c.join-2.new.next c.args.g inside.end c.join-2.ensures.next c.deref_mut-3.ensures.value
    c.deref_mut-3.ensures.len in
    let prev = written inside.prev c.deref_mut-2.result.now c.join.new.prev c.args.g c.index-tail.result.now c.join.ensures.prev c.deref_mut-2.ensures.value c.deref_mut-2.ensures.len in
    let prev' = written (with_items inside.prev c.join.new.prev) c.deref_mut-4.result.now c.join-2.new.prev inside.end c.args.g c.join-2.ensures.prev c.deref_mut-4.ensures.value
    c.deref_mut-4.ensures.len in
    (pushed inside.next.items inside.prev.items inside.end inside.len ring c.args.self.now c.self.view_is c.args.g c.requires.within c.requires.absent c.index-tail.result.now
    (with_items inside.next c.join.new.next).items (with_items (with_items inside.next c.join.new.next) c.join-2.new.next).items (with_items inside.prev c.join.new.prev).items
    (with_items (with_items inside.prev c.join.new.prev) c.join-2.new.prev).items tail next next' prev prev').0

pub returns : goal.returns
returns c =
    let inside = c.self.inside in
    let ring = c.self.invariant in
    let tail = get_or_read inside.prev.items inside.end c.index-tail.result.now (omega (arith, ring.prevs)) c.index-tail.ensures 0 in
    let next = written inside.next c.deref_mut.result.now c.join.new.next c.index-tail.result.now c.args.g c.join.ensures.next c.deref_mut.ensures.value c.deref_mut.ensures.len in
    let next' = written (with_items inside.next c.join.new.next) c.deref_mut-3.result.now c.join-2.new.next c.args.g inside.end c.join-2.ensures.next c.deref_mut-3.ensures.value
    c.deref_mut-3.ensures.len in
    let prev = written inside.prev c.deref_mut-2.result.now c.join.new.prev c.args.g c.index-tail.result.now c.join.ensures.prev c.deref_mut-2.ensures.value c.deref_mut-2.ensures.len in
    let prev' = written (with_items inside.prev c.join.new.prev) c.deref_mut-4.result.now c.join-2.new.prev inside.end c.args.g c.join-2.ensures.prev c.deref_mut-4.ensures.value
    c.deref_mut-4.ensures.len in
    (pushed inside.next.items inside.prev.items inside.end inside.len ring c.args.self.now c.self.view_is c.args.g c.requires.within c.requires.absent c.index-tail.result.now
    (with_items inside.next c.join.new.next).items (with_items (with_items inside.next c.join.new.next) c.join-2.new.next).items (with_items inside.prev c.join.new.prev).items
    (with_items (with_items inside.prev c.join.new.prev) c.join-2.new.prev).items tail next next' prev prev').1
