-- What cells are to their callers.
use Rattle.std.specs.Prelude.{ℕ}
use Rattle.atomic_table.specs.Seated.{TableId}

-- which cells they are, and how many
pub record CellArray : Type 0 where
  pub table : TableId
  pub count : ℕ
