use Rattle.std.proofs.Common.{◌≡◌, ◌<◌, ◌⊎◌, inl, inr, length, get_or, rules}
use Rattle.gp_ring.proofs.Rounding.{walk-step, walk-stop}
use Rattle.gp_ring.proofs.gather.stop_of.Goals.{then-place-slots-via-then-place-slots, then-place-slots-via-else-place-slots+then-slots-place-eq0}
use Rattle.gp_ring.proofs.gather.stop_of.Goals as goal

pub loop-preserved : goal.loop-preserved
loop-preserved c =
    let xs = c.args.slots.now in
    let k = c.loop.invariant in
    let p : c.loop.place < length xs = search rules in
    let q : 0 < get_or xs c.loop.place 0 = search rules in
    walk-step xs c.args.hdrsize c.args.records c.args.from c.args.to c.args.at c.loop.place c.loop.counter c.requires.some c.requires.at k p q c.loop-test.true

pub overflow_add-place : goal.overflow_add-place
overflow_add-place c =
    let xs = c.args.slots.now in
    let k = c.loop.invariant in
    let p : c.loop.place < length xs = search rules in
    let q : 0 < get_or xs c.loop.place 0 = search rules in
    let n = walk-step xs c.args.hdrsize c.args.records c.args.from c.args.to c.args.at c.loop.place c.loop.counter c.requires.some c.requires.at k p q c.loop-test.true in
    let h = n.high in
    search rules

pub returns-then-place-slots-clause-words : goal.returns-then-place-slots-clause-words
returns-then-place-slots-clause-words c =
    let xs = c.args.slots.now in
    let k = c.loop.invariant in
    let how : (c.loop.place ≡ length xs) ⊎ ((c.loop.place < length xs) × (get_or xs c.loop.place 0 ≡ 0)) = elim c.then-place-slots.branch [
      | then-place-slots-via-then-place-slots w ↦ inl (search rules)
      | then-place-slots-via-else-place-slots+then-slots-place-eq0 w ↦ inr (search rules, search rules)
    ] in
    walk-stop xs c.args.hdrsize c.args.records c.args.from c.args.to c.args.at c.loop.place c.loop.counter c.requires.some c.requires.at k c.loop-test.true c.requires.order c.requires.within c.requires.over how
