use Rattle.std.proofs.Common.{◌++◌, [], ◌∷◌}
use Rattle.gp_io.specs.OfSystem.{NotMade, AllTaken, Refused}
use Rattle.gp_io.specs.OfSystem.{Taken}
use Rattle.std.proofs.Common.{map}
use Rattle.gp_io.proofs.Calls.{Makes-append, one_more_taken, on_err}
use Rattle.gp_io.proofs.system.put_whole.create_beside.Goals as goal

pub returns-in_err-beside-clause-none : goal.returns-in_err-beside-clause-none
returns-in_err-beside-clause-none g c = on_err c.from_residual.result _ (AllTaken c.loop-number.invariant.0 c.loop-number.invariant.1)

pub returns-in-Err-Refused-clause-none : goal.returns-in-Err-Refused-clause-none
returns-in-Err-Refused-clause-none g c =
    let names = c.loop-number.invariant.0 in
    let name = c.as_str.result.now in
    Refused names name (Makes-append _ _ _ (map Taken names) (NotMade name ∷ []) c.loop-number.invariant.1 (c.create.ensures.refused cc))

pub loop-number-preserved : goal.loop-number-preserved
loop-number-preserved g c =
    let names = c.loop-number.invariant.0 in
    let name = c.as_str.result.now in
    (names ++ name ∷ [], one_more_taken _ _ _ names name c.loop-number.invariant.1 (c.create.ensures.taken cc))

pub returns-clause-none : goal.returns-clause-none
returns-clause-none g c = AllTaken c.loop-number.invariant.0 c.loop-number.invariant.1
