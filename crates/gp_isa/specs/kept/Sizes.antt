-- What a program keeps beside its parts: the sizes of its traces.
use Rattle.std.specs.Prelude.{◌≡◌, ◌<◌, ◌≤◌, ◌+◌, ℕ, true, None, min, List, length, slice_index_or}
use Rattle.gp_isa.specs.declared.parts.Parts.{Parts}
use Rattle.gp_isa.specs.declared.size.Size.{Size}
use Rattle.gp_isa.specs.Calls.{callees, IsProgram}
use Rattle.gp_isa.specs.InLimits.{AreInLimits}
use Rattle.gp_isa.specs.declared.suffix.Suffix.{Suffix}
use Rattle.gp_isa.specs.kept.Blocks.{AreBlocks}
use Rattle.gp_isa.specs.kept.Ways.{is_among}
use Rattle.gp_isa.specs.Limits.{most_points}
use Rattle.gp_isa.specs.Nesting.{nesting_of}
use Rattle.gp_isa.specs.Size.{most_frames, depth_of, is_work, all_pass, local_before, first_shared}
use Rattle.gp_isa.specs.Trace.{Point, is_local, trace}

-- What is kept of points: how many they are, where more than the limit are all one, the most frames of a stack, whether
-- all of them are local, and all of them work, and the first shared one with how many come before it.
abbrev pub size_of : List Point → Size
size_of points = record {
  points = min (length points) (most_points + 1);
  frames = most_frames points;
  local = all_pass is_local points;
  work = all_pass is_work points;
  before = min (local_before points) (most_points + 1);
  first = first_shared points;
}

-- the size of no points
abbrev pub no_size : Size
no_size = record { points = 0; frames = 0; local = true; work = true; before = 0; first = None }

-- A table has the size of each function's points; past its end there are none.
pub record AreSizes (sizes : List Size) (calls : ℕ → List Point) : Type 0 where
  pub each : (f : ℕ) → slice_index_or sizes f no_size ≡ size_of (calls f)

-- A number for each function, higher than those of the functions that it calls, none above a bound.
pub record AreRanks (parts : Parts) (most : ℕ) (ranks : List ℕ) : Type 0 where
  pub count : length ranks ≡ length parts.functions
  pub few : (f : ℕ) → slice_index_or ranks f 0 ≤ most
  pub rising : (f h : ℕ) → f < length parts.functions → is_among h (callees parts f) ≡ true →
      slice_index_or ranks h 0 < slice_index_or ranks f 0

-- A table while it is filled: it has the sizes of some points, which are those of the traces wherever it is done.
pub record AreSomeSizes (parts : Parts) (sizes : List Size) (done : ℕ → Type 0) : Type 0 where
  pub calls : ℕ → List Point
  pub count : length sizes ≡ length parts.functions
  pub are : AreSizes sizes calls
  pub whole : (f : ℕ) → f < length parts.functions → done f → calls f ≡ trace parts f
  pub few : (f : ℕ) → most_frames (calls f) ≤ length parts.functions + 1

-- Parts that were checked, the sizes of their functions' traces, what is kept of their statements, and their depth.
pub record KeepsSizes (parts : Parts) (sizes : List Size) (table : List Suffix) (bases : List ℕ) (loops depth : ℕ) : Type 0 where
  pub limits : AreInLimits parts
  pub checked : IsProgram parts
  pub count : length sizes ≡ length parts.functions
  pub traces : AreSizes sizes (trace parts)
  pub deepest : depth ≡ depth_of parts
  pub blocks : AreBlocks parts table bases
  pub nesting : loops ≡ nesting_of parts
  pub few_loops : loops ≤ 9
