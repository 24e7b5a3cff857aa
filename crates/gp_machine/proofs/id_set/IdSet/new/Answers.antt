use Rattle.std.proofs.Common.{arith}
use Rattle.gp_machine.proofs.IdSets.{ids_of_zeros}
use Rattle.gp_machine.proofs.id_set.IdSet.new.Goals as goal

pub returns : goal.returns
returns c =
    rw (c.in_ok-words.ensures.items_if_clones_equal (λ y e. e))
    (ids_of_zeros c.args.room c.div_ceil.result (omega (arith, c.div_ceil.ensures)))
