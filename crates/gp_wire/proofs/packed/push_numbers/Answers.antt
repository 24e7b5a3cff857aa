use Rattle.std.proofs.Common.{◌++◌, ◌∷◌, [], refl}
use Rattle.std.proofs.lemmas.Result.{err_from_is_err_and}
use Rattle.gp_wire.specs.Packed.{packed_at}
use Rattle.gp_wire.proofs.FrontLemmas.{groups_at-shorter}
use Rattle.gp_wire.proofs.PackedLemmas.{packed_more, packed_stops, packed_ends, some_left, none_left, pushed_word}
use Rattle.gp_wire.proofs.packed.push_numbers.Goals as goal

pub returns-in_err-word-clause-fault : goal.returns-in_err-word-clause-fault
returns-in_err-word-clause-fault g c =
    let p = err_from_is_err_and c.from_residual.result c.from_residual.ensures.1 in
    rw (p.1, p.2)
    (packed_stops c.loop-rest.invariant.0 c.loop-rest.rest.now c.in_err-word.field-0.0 (packed_at c.args.bytes.now)
    (some_left c.loop-rest.rest.now c.loop-rest-test.ensures) c.in_err-word.ensures c.loop-rest.invariant.2)

pub loop-rest-smaller : goal.loop-rest-smaller
loop-rest-smaller g c = groups_at-shorter 9 c.loop-rest.rest.now (c.in_ok-word.word, c.in_ok-word.after.now) c.in_ok-word.ensures

pub loop-rest-preserved : goal.loop-rest-preserved
loop-rest-preserved g c =
    let seen = c.loop-rest.invariant.0 in (
      seen ++ c.in_ok-word.word ∷ [],
      pushed_word g.T.Word.of_word c.push.new.self.items c.loop-rest.items.items c.args.items.now.items seen c.in_ok-word.word c.of_word.result
          c.in_ok-push.ensures.items c.of_word.ensures c.loop-rest.invariant.1,
      packed_more seen c.loop-rest.rest.now c.in_ok-word.after.now c.in_ok-word.word (packed_at c.args.bytes.now)
          (some_left c.loop-rest.rest.now c.loop-rest-test.ensures) c.in_ok-word.ensures c.loop-rest.invariant.2,
    )

pub returns-clause-taken : goal.returns-clause-taken
returns-clause-taken g c =
    let whole = packed_ends c.loop-rest.invariant.0 c.loop-rest.rest.now (packed_at c.args.bytes.now) (none_left c.loop-rest.rest.now c.loop-rest-test.ensures) c.loop-rest.invariant.2 in
    rw whole c.loop-rest.invariant.1

pub returns-clause-fine : goal.returns-clause-fine
returns-clause-fine g c =
    let whole = packed_ends c.loop-rest.invariant.0 c.loop-rest.rest.now (packed_at c.args.bytes.now) (none_left c.loop-rest.rest.now c.loop-rest-test.ensures) c.loop-rest.invariant.2 in
    rw whole refl
