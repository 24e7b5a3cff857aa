-- A goroutine's row in the goroutines' book, and the body that belongs into its cell.
use Rattle.std.specs.Prelude.{◌≡◌, ◌<◌, ℕ, false}
use Rattle.atomic_table.specs.Seated.{TableId}
use Rattle.gp_isa.specs.declared.parts.Parts.{Parts}
use Rattle.gp_stack.specs.Body.{Progress, progress_of, is_over_at, StandsIn}
use Rattle.gp_tally.specs.declared.row.Row.{Row}
use Rattle.gp_cells.specs.declared.carried.Carried.{Carried}

-- What a goroutine's row says of it: the function that it runs, the label set that it was born with, how many points it has
-- passed. The fourth number is one above the goroutine's where it is live, else 0.
abbrev pub progress_in : Row → Progress
progress_in row = record { start = row.a; set = row.b; count = row.c }

-- A row is live in a program: its goroutine is, and its trace isn't ended.
pub record IsLive (program : Parts) (row : Row) : Type 0 where
  pub lives : 0 < row.d
  pub going : is_over_at program (progress_in row) ≡ false

-- A body has the start, the set and the count of its share's row, and stands there in a program.
pub record IsInStep (program : Parts) (carried : Carried) : Type 0 where
  pub progress : progress_of carried.body ≡ progress_in carried.share.row
  pub stands : StandsIn program carried.body

-- The body of goroutine g: its share is that of g's row in the book, which is live, and it is in step with it. Since a row has
-- one share, there is no other.
pub record IsBodyOf (program : Parts) (roster : TableId) (g : ℕ) (carried : Carried) : Type 0 where
  pub book : carried.share.book ≡ roster
  pub number : carried.share.number ≡ g
  pub live : IsLive program carried.share.row
  pub in_step : IsInStep program carried
