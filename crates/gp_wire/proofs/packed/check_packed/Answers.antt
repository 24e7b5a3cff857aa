use Rattle.std.proofs.Common.{◌++◌, ◌∷◌, [], refl}
use Rattle.std.proofs.lemmas.Result.{err_from_is_err_and}
use Rattle.gp_wire.specs.Packed.{packed_at}
use Rattle.gp_wire.proofs.FrontLemmas.{groups_at-shorter}
use Rattle.gp_wire.proofs.PackedLemmas.{packed_more, packed_stops, packed_ends, some_left, none_left}
use Rattle.gp_wire.proofs.packed.check_packed.Goals as goal

pub returns-in_err-after-clause-fault : goal.returns-in_err-after-clause-fault
returns-in_err-after-clause-fault c =
    let p = err_from_is_err_and c.from_residual.result c.from_residual.ensures.1 in
    rw (p.1, p.2)
    (packed_stops c.loop-rest.invariant.0 c.loop-rest.rest.now c.in_err-after.field-0.0 (packed_at c.args.bytes.now)
    (some_left c.loop-rest.rest.now c.loop-rest-test.ensures) c.in_err-after.ensures c.loop-rest.invariant.1)

pub loop-rest-smaller : goal.loop-rest-smaller
loop-rest-smaller c = groups_at-shorter 9 c.loop-rest.rest.now (c.in_ok-after.field-0-0, c.in_ok-after.after.now) c.in_ok-after.ensures

pub loop-rest-preserved : goal.loop-rest-preserved
loop-rest-preserved c =
    let seen = c.loop-rest.invariant.0 in (
      seen ++ c.in_ok-after.field-0-0 ∷ [],
      packed_more seen c.loop-rest.rest.now c.in_ok-after.after.now c.in_ok-after.field-0-0 (packed_at c.args.bytes.now)
          (some_left c.loop-rest.rest.now c.loop-rest-test.ensures) c.in_ok-after.ensures c.loop-rest.invariant.1,
    )

pub returns-clause-fine : goal.returns-clause-fine
returns-clause-fine c =
    let whole = packed_ends c.loop-rest.invariant.0 c.loop-rest.rest.now (packed_at c.args.bytes.now) (none_left c.loop-rest.rest.now c.loop-rest-test.ensures) c.loop-rest.invariant.1 in
    rw whole refl
