-- The most frames in the traces so far.
use Rattle.std.proofs.Common.{◌≡◌, ℕ, List}
use Rattle.gp_isa.specs.Trace.{Point}
use Rattle.gp_isa.specs.Size.{most_frames_below}
use Rattle.gp_isa.specs.kept.Sizes.{AreSizes}
use Rattle.gp_isa.proofs.size.most_frames.Given as goal

abbrev pub invariant-loop-size : goal.invariant-loop-size
invariant-loop-size l = (traces : ℕ → List Point) → AreSizes l.sizes traces → l.most ≡ most_frames_below traces l.size-index
