-- The rows of a run's goroutines, by number. They are a function of the state.
use Rattle.std.specs.Prelude.{◌+◌, ℕ, List, [], ◌∷◌, if◌then◌else◌}
use Rattle.gp_tally.specs.declared.row.Row.{Row}
use Rattle.gp_journal.specs.declared.goroutine.Goroutine.{Goroutine}
use Rattle.gp_journal.specs.State.{State, is_live}

-- The row of goroutine g: the function that it runs, the label set that it was born with, how many points it has passed, and one
-- above its number where it is live, else 0.
abbrev pub row_of : ℕ → Goroutine → Row
row_of g it = record { a = it.start; b = it.set; c = it.count; d = if is_live it then g + 1 else 0 }

-- the rows of goroutines that are numbered from n on
abbrev pub rows_from : ℕ → List Goroutine → List Row
rows_from n [] = []
rows_from n (it ∷ others) = row_of n it ∷ rows_from (n + 1) others

-- The rows of all that were born.
unfoldable pub rows_of : State → List Row
rows_of state = rows_from 0 state.goroutines
