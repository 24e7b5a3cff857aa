use Rattle.std.proofs.Common.{length}
use Rattle.gp_stack.proofs.level.+nested_block.Given as goal

abbrev pub decreases-nested_block : goal.decreases-nested_block
decreases-nested_block l = length l.outer.now
