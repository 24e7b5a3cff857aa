use Rattle.std.proofs.Common.{refl}
use Rattle.gp_stack.specs.kept.Level.{frame_of}
use Rattle.gp_stack.proofs.climb.caller.Goals as goal

pub returns : goal.returns
unfolding frame_of
returns c = rw (c.line.ensures, c.block-here.ensures.statements, c.as_slice.ensures.value, c.saturating_sub.ensures) refl
