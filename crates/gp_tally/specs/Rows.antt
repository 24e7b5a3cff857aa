-- What a book and a share are to their callers.
use Rattle.std.specs.Prelude.{ℕ, List}
use Rattle.atomic_table.specs.Seated.{TableId}
use Rattle.gp_tally.specs.declared.row.Row.{Row}

-- which book it is, for how many rows it has room, and its rows, by number from 0
pub record Rows : Type 0 where
  pub book : TableId
  pub room : ℕ
  pub rows : List Row

-- of which book a share is, the number of its row, and the row
pub record Part : Type 0 where
  pub book : TableId
  pub number : ℕ
  pub row : Row
