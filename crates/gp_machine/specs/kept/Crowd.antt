-- The goroutines that were born, with what is counted of them, and marks of who has still to be recorded.
use Rattle.std.specs.Prelude.{◌≡◌, ◌+◌, ◌≤◌, ℕ, Bool, false, not, ◌&&◌, List, length, get_or, count_by, if◌then◌else◌}
use Rattle.gp_journal.specs.declared.goroutine.Goroutine.{Goroutine}
use Rattle.gp_isa.specs.Limits.{most_cells}
use Rattle.gp_journal.specs.State.{nobody, is_runnable, is_running, is_live, is_behind}

-- The goroutines by number, at most so many as there are cells, and the epoch of the active profile.
pub record Crowd : Type 0 where
  pub cells : ℕ
  pub all : List Goroutine
  pub active : ℕ

-- whether a goroutine is live and has nothing to be recorded in the profile of an epoch
abbrev pub is_settled : ℕ → Goroutine → Bool
is_settled active g = is_live g && not (is_behind active g)

-- a goroutine that has passed n points more
abbrev pub further : ℕ → Goroutine → Goroutine
further n g = record g { count = g.count + n }

-- 1 where something is so
abbrev pub one_if : Bool → ℕ
one_if b = if b then 1 else 0

-- The numbers and marks are those of the goroutines.
pub record AreCounted (cells room : ℕ) (all : List Goroutine) (active live running runnable : ℕ)
    (recorded unrecorded : List Bool) : Type 0 where
  pub reserved : cells ≤ room
  pub few : cells ≤ most_cells
  pub born : length all ≤ cells
  pub recorded_marks : length recorded ≡ cells
  pub unrecorded_marks : length unrecorded ≡ cells
  pub live_count : live ≡ count_by is_live all
  pub running_count : running ≡ count_by (λ g. is_running g.status) all
  pub runnable_count : runnable ≡ count_by (λ g. is_runnable g.status) all
  pub behind : (g : ℕ) → get_or unrecorded g false ≡ is_behind active (get_or all g nobody)
  pub settled : (g : ℕ) → get_or recorded g false ≡ is_settled active (get_or all g nobody)
