use Rattle.std.proofs.Common.{length, arith, ap}
use Rattle.std.proofs.lemmas.List.{get_or_read}
use Rattle.std.specs.Vec.{with_items}
use Rattle.gp_machine.specs.Queue.{Line}
use Rattle.gp_machine.proofs.Queued.{before_is_place, behind_is_place, left}
use Rattle.gp_machine.proofs.Written.{written}
use Rattle.gp_machine.proofs.queue.Queue.remove.Goals as goal

pub join-requires-clause-before : goal.join-requires-clause-before
join-requires-clause-before c =
    let inside = c.self.inside in
    let ring = c.self.invariant in
    let cells = ap (λ (line : Line). line.cells) c.self.view_is in
    let before = get_or_read inside.prev.items c.args.g c.index-before.result.now (omega (arith, ring.prevs, cells)) c.index-before.ensures 0 in
    let place = before_is_place inside.next.items inside.prev.items inside.end inside.len ring c.args.self.now c.self.view_is c.args.g c.requires.within c.requires.once in
    omega (arith, before, place, ring.nexts, ap length c.deref_mut.ensures.value)

pub join-requires-clause-behind : goal.join-requires-clause-behind
join-requires-clause-behind c =
    let inside = c.self.inside in
    let ring = c.self.invariant in
    let cells = ap (λ (line : Line). line.cells) c.self.view_is in
    let behind = get_or_read inside.next.items c.args.g c.index-behind.result.now (omega (arith, ring.nexts, cells)) c.index-behind.ensures 0 in
    let place = behind_is_place inside.next.items inside.prev.items inside.end inside.len ring c.args.self.now c.self.view_is c.args.g c.requires.within c.requires.once in
    omega (arith, behind, place, ring.prevs, ap length c.deref_mut-2.ensures.value)

pub invariant_of-self : goal.invariant_of-self
invariant_of-self c =
    let inside = c.self.inside in
    let ring = c.self.invariant in
    let cells = ap (λ (line : Line). line.cells) c.self.view_is in
    let before = get_or_read inside.prev.items c.args.g c.index-before.result.now (omega (arith, ring.prevs, cells)) c.index-before.ensures 0 in
    let behind = get_or_read inside.next.items c.args.g c.index-behind.result.now (omega (arith, ring.nexts, cells)) c.index-behind.ensures 0 in
    let next = written inside.next c.deref_mut.result.now c.join.new.next c.index-before.result.now c.index-behind.result.now c.join.ensures.next c.deref_mut.ensures.value c.deref_mut.ensures.len in
    let prev = written inside.prev c.deref_mut-2.result.now c.join.new.prev c.index-behind.result.now c.index-before.result.now c.join.ensures.prev c.deref_mut-2.ensures.value
    c.deref_mut-2.ensures.len in
    (left inside.next.items inside.prev.items inside.end inside.len ring c.args.self.now c.self.view_is c.args.g c.requires.within c.requires.once c.index-before.result.now c.index-behind.result.now
    (with_items inside.next c.join.new.next).items (with_items inside.prev c.join.new.prev).items before behind next prev).0

pub returns : goal.returns
returns c =
    let inside = c.self.inside in
    let ring = c.self.invariant in
    let cells = ap (λ (line : Line). line.cells) c.self.view_is in
    let before = get_or_read inside.prev.items c.args.g c.index-before.result.now (omega (arith, ring.prevs, cells)) c.index-before.ensures 0 in
    let behind = get_or_read inside.next.items c.args.g c.index-behind.result.now (omega (arith, ring.nexts, cells)) c.index-behind.ensures 0 in
    let next = written inside.next c.deref_mut.result.now c.join.new.next c.index-before.result.now c.index-behind.result.now c.join.ensures.next c.deref_mut.ensures.value c.deref_mut.ensures.len in
    let prev = written inside.prev c.deref_mut-2.result.now c.join.new.prev c.index-behind.result.now c.index-before.result.now c.join.ensures.prev c.deref_mut-2.ensures.value
    c.deref_mut-2.ensures.len in
    (left inside.next.items inside.prev.items inside.end inside.len ring c.args.self.now c.self.view_is c.args.g c.requires.within c.requires.once c.index-before.result.now c.index-behind.result.now
    (with_items inside.next c.join.new.next).items (with_items inside.prev c.join.new.prev).items before behind next prev).1
