-- The rule of cells: what holds of words, of bodies at home and of what all seats know, between any two steps of any thread.
use Rattle.std.specs.Prelude.{◌≡◌, ◌⊎◌, ◌<◌, ℕ, List, length, slice_index, true, Option, Some, None}
use mathlib.Core.Option as home
use lib.ListN.{get_elem?}
use Rattle.atomic_table.specs.Table.{State}
use Rattle.atomic_table.specs.Seated.{TableId}
use Rattle.gp_isa.specs.declared.parts.Parts.{Parts}
use Rattle.gp_cells.specs.declared.carried.Carried.{Carried}
use Rattle.gp_cells.specs.declared.view.View.{View}
use Rattle.gp_cells.specs.Words.{dead_word, IsHome, IsBusy}
use Rattle.gp_cells.specs.Goroutine.{IsBodyOf}

-- what a slot may have under a word that nobody has the slot of: nothing in an empty cell, the goroutine's body at home
abbrev pub Fills : Parts → TableId → ℕ → ℕ → Option Carried → Type 0
Fills program roster g word slot =
    ((word ≡ dead_word) × (slot ≡ None))
    ⊎ (IsHome word × ((carried : Carried) × (slot ≡ Some carried) × IsBodyOf program roster g carried))

-- the slot of cell g is at home, with what its word says
pub record IsAtHome (program : Parts) (roster : TableId) (words : List ℕ) (homes : List (home.Option (Option Carried))) (g : ℕ)
    : Type 0 where
  pub slot : Option Carried
  pub at : get_elem? homes g ≡ home.some (home.some slot)
  pub fills : Fills program roster g (slice_index words g) slot

-- the slot of cell g is out with the seat that owns it, whose view says so
pub record IsOut (words : List ℕ) (homes : List (home.Option (Option Carried))) (views : List View) (owner : ℕ → ℕ) (g : ℕ)
    : Type 0 where
  pub busy : IsBusy (slice_index words g)
  pub out : get_elem? homes g ≡ home.some home.none
  pub view : View
  pub there : get_elem? views (owner g) ≡ home.some view
  pub holds : view.holds ≡ true
  pub cell : view.cell ≡ g

-- a seat that holds a cell owns it, and knows the word there
pub record IsHolder (words : List ℕ) (owner : ℕ → ℕ) (seat : ℕ) (v : View) : Type 0 where
  pub owns : owner v.cell ≡ seat
  pub within : v.cell < length words
  pub same : slice_index words v.cell ≡ v.word
  pub busy : IsBusy v.word

-- Each cell's slot is at home or with the one seat that owns it, by its word; and whoever holds a cell is that seat.
pub record AreCells (program : Parts) (roster : TableId) (s : State (Option Carried) View) : Type 0 where
  pub owner : ℕ → ℕ
  pub wide : length s.homes ≡ length s.words
  pub each_cell : (g : ℕ) → g < length s.words →
      IsAtHome program roster s.words s.homes g ⊎ IsOut s.words s.homes s.views owner g
  pub each_view : (seat : ℕ) (v : View) → get_elem? s.views seat ≡ home.some v → v.holds ≡ true → IsHolder s.words owner seat v
