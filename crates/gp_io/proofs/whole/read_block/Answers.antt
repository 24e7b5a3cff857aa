use Rattle.std.proofs.Common.{take, arith}
use Rattle.std.proofs.lemmas.Grind.{common_steps}
use Rattle.gp_io.proofs.whole.read_block.Goals as goal

pub returns-clause-taken : goal.returns-clause-taken
returns-clause-taken g c = (take c.in_ok-n.n c.read.new.to, grind (arith, common_steps), c.in_ok-n.ensures.taken)

pub returns-in_err-extend_from_slice-clause-some_taken : goal.returns-in_err-extend_from_slice-clause-some_taken
returns-in_err-extend_from_slice-clause-some_taken g c = λ _. (take c.in_ok-n.n c.read.new.to, grind (arith, common_steps), c.in_ok-n.ensures.taken)
