-- Stacks spelled by blocks of frames, which are numbered in a table.
use Rattle.std.specs.Prelude.{◌≡◌, ◌<◌, ◌≤◌, ℕ, zero, suc, List, [], ◌∷◌, length, take, drop, get_or}
use Rattle.std.specs.Ordering.{nat_cmp, ordering_then}
use Rattle.std.specs.Cmp.Lexicographic.{slice_cmp}
use Rattle.std.specs.declared.cmp.Ordering.{Ordering}
use Rattle.gp_isa.specs.declared.frame.Frame.{Frame}
use Rattle.gp_build.specs.declared.spelled.Spelled.{Spelled}
use Rattle.gp_build.specs.Shown.{pair_cmp}

-- so many blocks of a stack, each of 8 frames, of which the last ones may be shorter or empty
abbrev pub blocks_of : ℕ → List Frame → List (List Frame)
blocks_of zero stack = []
blocks_of (suc n) stack = take 8 stack ∷ blocks_of n (drop 8 stack)

-- the frames behind them
abbrev pub rest_behind : ℕ → List Frame → List Frame
rest_behind zero stack = stack
rest_behind (suc n) stack = rest_behind n (drop 8 stack)

-- the block of a number
abbrev pub block_at : List (List Frame) → ℕ → List Frame
block_at table n = get_or table n []

-- A number is that of a block.
pub record IsNumber (table : List (List Frame)) (n : ℕ) (block : List Frame) : Type 0 where
  pub within : n < length table
  pub is : block_at table n ≡ block

-- A table has what it had, at the same numbers.
pub record Grows (old new : List (List Frame)) : Type 0 where
  pub longer : length old ≤ length new
  pub same : (n : ℕ) → n < length old → block_at new n ≡ block_at old n

-- Numbers spell the first blocks of a stack.
abbrev pub Spells : List (List Frame) → List ℕ → List (List Frame) → Type 0
Spells table [] [] = Unit {0}
Spells table [] (b ∷ bs) = ⊥
Spells table (n ∷ ns) [] = ⊥
Spells table (n ∷ ns) (b ∷ bs) = IsNumber table n b × Spells table ns bs

abbrev pub IsSpelled : List (List Frame) → Spelled → Type 0
IsSpelled table it = Spells table it.blocks (blocks_of 4 it.group.shown.stack)

-- the order of groups, by the numbers of their blocks, where frames are in the order `R`
module _ (R : Frame → Frame → Ordering) (table : List (List Frame)) where
  abbrev pub number_cmp : ℕ → ℕ → Ordering
  number_cmp n m = slice_cmp R (block_at table n) (block_at table m)

  abbrev pub spelled_cmp : Spelled → Spelled → Ordering
  spelled_cmp a b =
      ordering_then (nat_cmp b.group.count a.group.count)
      (ordering_then
      (ordering_then (slice_cmp number_cmp a.blocks b.blocks)
      (slice_cmp R (drop 32 a.group.shown.stack) (drop 32 b.group.shown.stack)))
      (slice_cmp pair_cmp a.group.shown.labels b.group.shown.labels))
