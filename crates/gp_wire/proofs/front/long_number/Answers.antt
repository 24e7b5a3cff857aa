use Rattle.std.proofs.Common.{◌≡◌, ◌<◌, ◌-◌, refl, arith}
use Rattle.std.proofs.lemmas.Result.{err_from_is_err_and}
use Rattle.std.proofs.lemmas.Nat.{mul-le}
use Rattle.gp_wire.specs.Front.{groups_at}
use Rattle.gp_wire.proofs.GroupLemmas.{group_more, group_last, group_none, tenth, tenth_stops, groups_start, small_scale, group_below, scale_more, tenth_scale}
use Rattle.gp_wire.proofs.front.long_number.Goals as goal

pub loop-init : goal.loop-init
loop-init c = record { scale = refl; low = omega arith; read = groups_start c.args.bytes.now }

pub returns-in_err-group : goal.returns-in_err-group
returns-in_err-group c =
    let p = err_from_is_err_and c.from_residual.result c.from_residual.ensures.1 in
    let e = c.in_err-group.ensures in
    rw (p.1, p.2) (group_none c.loop.low c.loop.scale (9 - c.loop.counter) c.loop.rest.now c.in_err-group.field-0.0 (groups_at 9 c.args.bytes.now) e.none e.cause c.loop.invariant.read)

pub overflow_mul-result : goal.overflow_mul-result
overflow_mul-result c =
    let small = small_scale c.loop.counter c.loop-test.true in
    omega (arith, small, group_below c.in_ok-group.group c.loop.scale c.if-group-lt128.true, c.loop.invariant.scale)

pub overflow_add-result : goal.overflow_add-result
overflow_add-result c =
    let small = small_scale c.loop.counter c.loop-test.true in
    omega (arith, small, group_below c.in_ok-group.group c.loop.scale c.if-group-lt128.true, c.loop.invariant.scale, c.loop.invariant.low)

pub returns-then-group-lt128 : goal.returns-then-group-lt128
returns-then-group-lt128 c =
    group_last c.loop.low c.loop.scale c.loop.counter c.in_ok-group.group c.loop.rest.now c.in_ok-group.after.now (groups_at 9 c.args.bytes.now) c.loop-test.true
    c.in_ok-group.ensures.front c.if-group-lt128.true c.loop.invariant.read

pub overflow_mul-low : goal.overflow_mul-low
overflow_mul-low c =
    let small = small_scale c.loop.counter c.loop-test.true in
    let few : c.in_ok-group.group - 128 < 128 = omega (arith, c.in_ok-group.ensures.small) in
    omega (arith, small, group_below (c.in_ok-group.group - 128) c.loop.scale few, c.loop.invariant.scale)

pub overflow_add-low : goal.overflow_add-low
overflow_add-low c =
    let small = small_scale c.loop.counter c.loop-test.true in
    let few : c.in_ok-group.group - 128 < 128 = omega (arith, c.in_ok-group.ensures.small) in
    omega (arith, small, group_below (c.in_ok-group.group - 128) c.loop.scale few, c.loop.invariant.scale, c.loop.invariant.low)

pub overflow_mul-scale : goal.overflow_mul-scale
overflow_mul-scale c =
    let small = small_scale c.loop.counter c.loop-test.true in
    omega (arith, small, c.loop.invariant.scale)

pub loop-preserved : goal.loop-preserved
loop-preserved c =
    let few : c.in_ok-group.group - 128 < 128 = omega (arith, c.in_ok-group.ensures.small) in
    let below = group_below (c.in_ok-group.group - 128) c.loop.scale few in
    let low = c.loop.invariant.low in record {
      scale = scale_more c.loop.counter c.loop.scale c.loop.invariant.scale;
      low = omega (arith, below, low);
      read = group_more c.loop.low c.loop.scale c.loop.counter c.in_ok-group.group c.loop.rest.now c.in_ok-group.after.now (groups_at 9 c.args.bytes.now) c.loop-test.true
          c.in_ok-group.ensures.front c.if-group-lt128.false c.loop.invariant.read;
    }

pub returns-in_err-high : goal.returns-in_err-high
returns-in_err-high c =
    let p = err_from_is_err_and c.from_residual-in_err-high.result c.from_residual-in_err-high.ensures.1 in
    rw (p.1, p.2) (tenth_stops c.loop.low c.loop.scale c.loop.counter c.loop.rest.now c.in_err-high.field-0.0 (groups_at 9 c.args.bytes.now) c.loop-test.false c.in_err-high.ensures.read c.loop.invariant.read)

pub overflow_mul-result-2 : goal.overflow_mul-result-2
overflow_mul-result-2 c =
    let nine : c.loop.counter ≡ 9 = omega (arith, c.loop-test.false) in
    let scale = tenth_scale c.loop.counter c.loop.scale nine c.loop.invariant.scale in
    let bit = c.in_ok-high.ensures.bit in
    omega (arith, bit, scale, mul-le c.in_ok-high.high c.loop.scale 1 c.loop.scale bit (omega arith))

pub overflow_add-result-2 : goal.overflow_add-result-2
overflow_add-result-2 c =
    let nine : c.loop.counter ≡ 9 = omega (arith, c.loop-test.false) in
    let scale = tenth_scale c.loop.counter c.loop.scale nine c.loop.invariant.scale in
    let bit = c.in_ok-high.ensures.bit in
    omega (arith, bit, scale, c.loop.invariant.low, mul-le c.in_ok-high.high c.loop.scale 1 c.loop.scale bit (omega arith))

pub returns : goal.returns
returns c = tenth c.loop.low c.loop.scale c.loop.counter c.loop.rest.now c.in_ok-high.high c.in_ok-high.rest.now (groups_at 9 c.args.bytes.now) c.loop-test.false c.in_ok-high.ensures.read c.loop.invariant.read
