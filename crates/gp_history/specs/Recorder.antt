-- The records of a run's profiles, in room that was reserved for them.
use Rattle.std.specs.Prelude.{ℕ, Bool, List}
use Rattle.gp_stack.specs.declared.record.Record.{Record as Row}

-- The rows of one profile so far, and how many there is room for.
pub record Reserved : Type 0 where
  pub rows : List Row
  pub room : ℕ

-- What a recorder has.
pub record Recording : Type 0 where
  -- the rows of each profile, by epoch
  pub profiles : List (List Row)
  -- whether the last of them is still recorded
  pub is_open : Bool
  -- for how many more profiles there is room
  pub left : ℕ
  -- how many rows of a profile there is room for
  pub each : ℕ
