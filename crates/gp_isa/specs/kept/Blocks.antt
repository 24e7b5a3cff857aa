-- What a program keeps of the statements of its bodies, so that many of them are crossed at once.
use Rattle.std.specs.Prelude.{◌≡◌, ◌<◌, ◌≤◌, ◌+◌, ◌-◌, ◌^◌, ℕ, zero, suc, true, min, List, ◌++◌, length, take, drop, slice_index_or}
use Rattle.gp_isa.specs.declared.parts.Parts.{Parts}
use Rattle.gp_isa.specs.declared.statement.Stmt.{Stmt}
use Rattle.gp_isa.specs.declared.suffix.Suffix.{Suffix}
use Rattle.gp_isa.specs.Limits.{most_points}
use Rattle.gp_isa.specs.Size.{most_frames, is_work, all_pass}
use Rattle.gp_isa.specs.Statement.{most_bodies, body_inside}
use Rattle.gp_isa.specs.Trace.{Point, is_local, points_of_body, body_of, trace}

-- What is kept of statements up to the end of their body, in which bodies stand at most `deep` inside each other, this
-- one included: how many points they have, where more than the limit are all one, the most frames of a stack, and how
-- many of the first statements have local points alone, and work alone.
pub record IsSuffix (calls : ℕ → List Point) (deep : ℕ) (suffix : Suffix) (body : List Stmt) : Type 0 where
  pub points : (f : ℕ) → suffix.points ≡ min (length (points_of_body calls f deep body)) (most_points + 1)
  pub frames : (f : ℕ) → suffix.frames ≡ most_frames (points_of_body calls f deep body)
  pub local : (f : ℕ) → all_pass is_local (points_of_body calls f deep (take suffix.local body)) ≡ true
  pub work : (f : ℕ) → all_pass is_work (points_of_body calls f deep (take suffix.work body)) ≡ true

-- the place of entries that aren't there
abbrev pub no_base : ℕ
no_base = 2 ^ 32 - 1

-- The entry of a body's statement. `Inner` says what has to be where the entries of its own body are, if it is a loop.
pub record IsEntry (calls : ℕ → List Point) (Inner : ℕ → List Stmt → Type 0) (deep : ℕ) (suffix : Suffix) (body : List Stmt)
    (at : ℕ) : Type 0 where
  pub sums : IsSuffix calls deep suffix (drop at body)
  pub inner : suffix.inner < no_base → Inner suffix.inner (body_inside body at)

-- A table has from a place on the entries of a body's statements.
unfoldable pub HasBlock : (ℕ → List Point) → List Suffix → ℕ → ℕ → List Stmt → Type 0
HasBlock calls table zero base body = Unit {0}
HasBlock calls table (suc deep) base body = (base + length body ≤ length table) ×
    ((k : ℕ) (d : Suffix) → k < length body →
    IsEntry calls (HasBlock calls table deep) (suc deep) (slice_index_or table (base + k) d) body k)

-- A table that has more entries behind those that it had.
pub record Grows (old new : List Suffix) : Type 0 where
  pub more : List Suffix
  pub behind : new ≡ old ++ more

-- Entries that were added to a table are those of a body from a place on, whatever stands before them.
pub record AddsBlock (calls : ℕ → List Point) (old new : List Suffix) (deep base : ℕ) (body : List Stmt) : Type 0 where
  pub each : (before : List Suffix) → length before ≡ length old → HasBlock calls (before ++ drop (length old) new) deep base body

-- A table has the entries of functions, from the places on that are told.
pub record AreBlocks (parts : Parts) (table : List Suffix) (bases : List ℕ) : Type 0 where
  pub each : (f : ℕ) → slice_index_or bases f no_base < no_base →
      HasBlock (trace parts) table most_bodies (slice_index_or bases f no_base) (body_of parts f)
