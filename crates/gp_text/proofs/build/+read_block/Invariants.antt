use Rattle.std.proofs.Common.{◌-◌, length}
use Rattle.gp_text.specs.Spaces.{kept}
use Rattle.gp_text.proofs.Steps.{Reads}
use Rattle.gp_text.proofs.build.+read_block.Given as goal

abbrev pub invariant-loop-at : goal.invariant-loop-at
invariant-loop-at l = Reads (kept l.spaces) l.said l.from l.at l.body

abbrev pub decreases-loop-at : goal.decreases-loop-at
decreases-loop-at l = length l.said - l.at

abbrev pub decreases-read_block : goal.decreases-read_block
decreases-read_block l = length l.said.now - l.from
