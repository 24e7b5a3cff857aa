-- What the seats of cells know, and what each kind of step makes of it.
use Rattle.std.specs.Prelude.{ℕ, ◌+◌, ◌-◌, List, [], ◌∷◌, ◌++◌, true, false}
use Rattle.atomic_table.specs.Seated.{TableId}
use Rattle.gp_cells.specs.declared.view.View.{View}
use Rattle.gp_cells.specs.Pass.{Token}

-- a seat that has done nothing
abbrev pub new_view : List ℕ → View
new_view name = record {
  holds = false;
  cell = 0;
  word = 0;
  name = name;
  forks = 0;
  held = 0;
  exchanges = 0;
  exchanged_at = 0;
  offered = 0;
  found = 0;
  stores = 0;
  stored_at = 0;
  stored = 0;
}

abbrev pub first_view : View
first_view = new_view []

-- a seat that was joined
abbrev pub nobody : View
nobody = new_view []

-- what a pass's seat tells its callers
abbrev pub token_of : TableId → View → Token
token_of cells v = record {
  cells = cells;
  name = v.name;
  forks = v.forks;
  held = v.held;
  exchanges = v.exchanges;
  exchanged_at = v.exchanged_at;
  offered = v.offered;
  found = v.found;
  stores = v.stores;
  stored_at = v.stored_at;
  stored = v.stored;
}

-- an exchange at cell g offered a word and found one
abbrev pub with_found : View → ℕ → ℕ → ℕ → View
with_found v g offered found = record v { exchanges = v.exchanges + 1; exchanged_at = g; offered = offered; found = found }

-- the slot of cell g was won, whose word became this one
abbrev pub with_cell : View → ℕ → ℕ → View
with_cell v g word = record v { holds = true; cell = g; word = word }

-- a word was stored in cell g, and its slot went home
abbrev pub with_stored : View → ℕ → ℕ → View
with_stored v g word = record v { holds = false; stores = v.stores + 1; stored_at = g; stored = word }

-- a pass goes on whose seat with a slot was cut off
abbrev pub going_on : View → View
going_on v = record v { holds = false; cell = 0; word = 0; held = v.held + 1 }

-- it takes in that seat, which has given its slot back
abbrev pub with_back : View → View → View
with_back v w = record v { held = v.held - 1; stores = v.stores + 1; stored_at = w.stored_at; stored = w.stored }

-- a pass is split off, and that one
abbrev pub with_fork : View → View
with_fork v = record v { forks = v.forks + 1 }

abbrev pub fork_view : View → View
fork_view v = new_view (v.name ++ v.forks ∷ [])
