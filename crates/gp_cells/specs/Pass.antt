-- What a pass is to its callers, and what calls make of it.
use Rattle.std.specs.Prelude.{ℕ, ◌+◌, ◌-◌, List, [], ◌∷◌, ◌++◌}
use Rattle.atomic_table.specs.Seated.{TableId}

pub record Token : Type 0 where
  -- of which cells it is
  pub cells : TableId
  -- its name, which no other pass of these cells has, and how many passes were split off
  pub name : List ℕ
  pub forks : ℕ
  -- how many bodies it holds
  pub held : ℕ
  -- how many exchanges it made, at which cell the last one, the word that this one offered, and the one that it found
  pub exchanges : ℕ
  pub exchanged_at : ℕ
  pub offered : ℕ
  pub found : ℕ
  -- how many words it stored, in which cell the last one, and that word
  pub stores : ℕ
  pub stored_at : ℕ
  pub stored : ℕ

-- a pass that has done nothing
abbrev pub new_pass : TableId → List ℕ → Token
new_pass cells name = record {
  cells = cells;
  name = name;
  forks = 0;
  held = 0;
  exchanges = 0;
  exchanged_at = 0;
  offered = 0;
  found = 0;
  stores = 0;
  stored_at = 0;
  stored = 0;
}

-- a pass off which one more was split, and that one
abbrev pub forked : Token → Token
forked pass = record pass { forks = pass.forks + 1 }

abbrev pub fork_of : Token → Token
fork_of pass = new_pass pass.cells (pass.name ++ pass.forks ∷ [])

-- a pass after one more exchange at cell g, which offered one word and found another
abbrev pub exchanged : Token → ℕ → ℕ → ℕ → Token
exchanged pass g offered found =
    record pass { exchanges = pass.exchanges + 1; exchanged_at = g; offered = offered; found = found }

-- the same, and it holds a body more
abbrev pub holding : Token → ℕ → ℕ → ℕ → Token
holding pass g offered found = record (exchanged pass g offered found) { held = pass.held + 1 }

-- a pass after it stored a word in cell g
abbrev pub storing : Token → ℕ → ℕ → Token
storing pass g word = record pass { stores = pass.stores + 1; stored_at = g; stored = word }

-- the same, and it holds a body less
abbrev pub giving : Token → ℕ → ℕ → Token
giving pass g word = record (storing pass g word) { held = pass.held - 1 }
