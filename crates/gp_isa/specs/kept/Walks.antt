-- What a walk over the functions keeps, callees first.
use Rattle.std.specs.Prelude.{◌≡◌, ◌<◌, ◌≤◌, ◌⊎◌, ℕ, List, length, slice_index_or}
use Rattle.gp_isa.specs.declared.parts.Parts.{Parts}
use Rattle.gp_isa.specs.declared.walk.Walk.{Walk}
use Rattle.gp_isa.specs.Nesting.{loops_in, nesting_of}
use Rattle.gp_isa.specs.Statement.{most_bodies}
use Rattle.gp_isa.specs.Trace.{body_of}
use Rattle.gp_isa.specs.kept.Blocks.{AreBlocks}
use Rattle.gp_isa.specs.kept.Sizes.{AreSomeSizes}

-- The functions of ranks below one are done, and of that rank those below f.
abbrev pub Done : List ℕ → ℕ → ℕ → ℕ → Type 0
Done ranks rank f k = (slice_index_or ranks k 0 < rank) ⊎ ((slice_index_or ranks k 0 ≡ rank) × (k < f))

-- What is kept of the functions that are done.
pub record IsWalked (parts : Parts) (walk : Walk) (done : ℕ → Type 0) : Type 0 where
  pub sizes : AreSomeSizes parts walk.sizes.items done
  pub blocks : AreBlocks parts walk.table.suffixes.items walk.table.bases.items
  pub count : length walk.table.bases.items ≡ length parts.functions
  pub most : walk.loops ≤ nesting_of parts
  pub least : (f : ℕ) → f < length parts.functions → done f → loops_in most_bodies (body_of parts f) ≤ walk.loops
  pub few : walk.loops ≤ 9
