-- The links that keep a queue.
use Rattle.std.specs.Prelude.{◌≡◌, ℕ, ◌+◌, ◌≤◌, zero, suc, List, [], ◌∷◌, length, get_or}
use Rattle.gp_journal.specs.Standing.{times}

-- so many places, from one on
abbrev pub walked : List ℕ → ℕ → ℕ → List ℕ
walked next a zero = []
walked next a (suc n) = a ∷ walked next (get_or next a 0) n

-- the goroutines between the end's place and itself, of whom there are so many
abbrev pub items_of : List ℕ → ℕ → ℕ → List ℕ
items_of next end len = walked next (get_or next end 0) len

-- Two places name each other: b is next to a, and a is before b.
pub record AreNeighbours (next : List ℕ) (prev : List ℕ) (a : ℕ) (b : ℕ) : Type 0 where
  pub behind : get_or next a 0 ≡ b
  pub before : get_or prev b 0 ≡ a

-- From a place, links lead through a list to an end: each two neighbours name each other.
abbrev pub Leads : List ℕ → List ℕ → ℕ → List ℕ → ℕ → Type 0
Leads next prev a [] end = AreNeighbours next prev a end
Leads next prev a (b ∷ rest) end = AreNeighbours next prev a b × Leads next prev b rest end

-- Links stand for a queue: they lead from the end's place round to itself, through different goroutines below it.
pub record IsRing (next : List ℕ) (prev : List ℕ) (end : ℕ) (len : ℕ) : Type 0 where
  pub nexts : length next ≡ end + 1
  pub prevs : length prev ≡ end + 1
  pub leads : Leads next prev end (items_of next end len) end
  pub once : (g : ℕ) → times g (items_of next end len) ≤ 1
  pub within : (g : ℕ) → end ≤ g → times g (items_of next end len) ≡ 0
