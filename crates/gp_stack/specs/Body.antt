-- What a body shows of its goroutine.
use Rattle.std.specs.Prelude.{◌≡◌, ℕ, Bool, false, List}
use Rattle.gp_isa.specs.declared.frame.Frame.{Frame}
use Rattle.gp_isa.specs.declared.parts.Parts.{Parts}
use Rattle.gp_isa.specs.Trace.{Point, is_local, trace}
use Rattle.gp_stack.specs.declared.body.Body.{Body}
use Rattle.gp_stack.specs.Goroutine.{is_ended, next_point, stack_of, labels_of, local_ahead}
pub use Rattle.gp_stack.specs.kept.Standing.{HasRoom, StandsIn}

-- A goroutine's progress: the function that it runs, the label set that it was born with, and how many points it has
-- passed.
pub record Progress : Type 0 where
  pub start : ℕ
  pub set : ℕ
  pub count : ℕ

-- what a body shows
abbrev pub progress_of : Body → Progress
progress_of body = record { start = body.start; set = body.set; count = body.count }

-- Of a goroutine that has come so far in a program: whether its trace is ended, its stack, its labels, and how many
-- local points it has ahead.
abbrev pub is_over_at : Parts → Progress → Bool
is_over_at parts at = is_ended (trace parts at.start) at.count

abbrev pub stack_at : Parts → Progress → List Frame
stack_at parts at = stack_of (trace parts at.start) at.count

abbrev pub labels_at : Parts → Progress → ℕ
labels_at parts at = labels_of (trace parts at.start) at.set at.count

abbrev pub ahead_at : Parts → Progress → ℕ
ahead_at parts at = local_ahead (trace parts at.start) at.count

-- a goroutine's trace isn't ended, and its next point is shared
pub record IsAtShared (points : List Point) (count : ℕ) : Type 0 where
  pub going : is_ended points count ≡ false
  pub shared : is_local (next_point points count).instruction ≡ false
