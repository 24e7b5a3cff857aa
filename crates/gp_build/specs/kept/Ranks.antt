-- Functions ranked by their names.
use Rattle.std.specs.Prelude.{◌≡◌, ◌<◌, ◌≤◌, ℕ, true, false, List, length, slice_index}
use Rattle.std.specs.List.Sorted.{IsSortedBy, IsPartitionPoint}
use Rattle.std.specs.Ordering.{nat_cmp, ordering_then, is_lt}
use Rattle.std.specs.Cmp.Lexicographic.{slice_cmp}
use Rattle.std.specs.declared.cmp.Ordering.{Ordering}
use Rattle.gp_isa.specs.declared.frame.Frame.{Frame}
use Rattle.gp_isa.specs.declared.parts.Parts.{Parts}
use Rattle.gp_build.specs.declared.ranks.Ranks.{Ranks}
use Rattle.gp_build.specs.Site.{function_of}

module _ (parts : Parts) where
  -- the order of functions by the bytes of their names
  abbrev pub name_cmp : ℕ → ℕ → Ordering
  name_cmp f g = slice_cmp nat_cmp (function_of parts f).name (function_of parts g).name

  -- Functions stand in the order of their names, and each name is that of one of them.
  pub record AreByName (order : List ℕ) : Type 0 where
    pub sorted : IsSortedBy (λ f g. is_lt (name_cmp f g)) order
    pub each : (f : ℕ) → (k : ℕ) × (k < length order) × ((function_of parts (slice_index order k)).name ≡ (function_of parts f).name)

  -- In that order the functions whose names are below that of `f` are those before a place.
  pub record IsPlace (order : List ℕ) (place f : ℕ) : Type 0 where
    pub within : place ≤ length order
    pub point : IsPartitionPoint (λ g. is_lt (name_cmp g f) ≡ true) (λ g. is_lt (name_cmp g f) ≡ false) order place

-- the rank of a function, 0 where none is kept
abbrev pub rank_of : Ranks → ℕ → ℕ
rank_of ranks f = slice_index ranks.places.items f

-- Functions are ordered by their ranks as by their names.
pub record AreRanks (parts : Parts) (ranks : Ranks) : Type 0 where
  pub ordered : (f g : ℕ) → nat_cmp (rank_of ranks f) (rank_of ranks g) ≡ name_cmp parts f g

-- the order of frames by the ranks of their functions, then by line
abbrev pub ranked_cmp : Ranks → Frame → Frame → Ordering
ranked_cmp ranks a b = ordering_then (nat_cmp (rank_of ranks a.function) (rank_of ranks b.function)) (nat_cmp a.line b.line)
