use Rattle.std.proofs.Common.{refl}
use Rattle.gp_stack.specs.kept.Level.{leaf_of}
use Rattle.gp_stack.proofs.climb.leaf.Goals as goal

pub returns : goal.returns
unfolding leaf_of
returns c = rw (c.line.ensures, c.block-here.ensures.statements, c.as_slice.ensures.value) refl
