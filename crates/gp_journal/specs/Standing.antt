-- Who stands in the queue and how often, and who stands first: there, and among those that have still to be recorded.
use Rattle.std.specs.Prelude.{ℕ, not, ◌==◌, Option, Some, None, List, [], ◌∷◌, filter, count_by, position}
use Rattle.gp_journal.specs.declared.goroutine.Goroutine.{Goroutine}
use Rattle.gp_journal.specs.State.{is_behind}

-- who stands at the head, if anyone does
abbrev pub head_of : List ℕ → Option ℕ
head_of [] = None
head_of (g ∷ rest) = Some g

-- how often a goroutine stands in a list
abbrev pub times : ℕ → List ℕ → ℕ
times g items = count_by (λ other. other == g) items

-- a list without a goroutine
abbrev pub without : ℕ → List ℕ → List ℕ
without g items = filter (λ other. not (other == g)) items

-- the number of the first goroutine that has still to be recorded in the profile of an epoch
abbrev pub first_behind : ℕ → List Goroutine → Option ℕ
first_behind active goroutines = position (is_behind active) goroutines
