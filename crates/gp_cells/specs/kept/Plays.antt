-- What the two kinds of step on words tell.
use Rattle.std.specs.Prelude.{◌≡◌, ◌≢◌, ℕ, ◌∷◌, Option}
use Rattle.atomic_table.specs.Table.{Me, Step, rest}
use Rattle.atomic_table.specs.Seated.{TableId}
use Rattle.gp_isa.specs.declared.parts.Parts.{Parts}
use Rattle.gp_cells.specs.declared.carried.Carried.{Carried}
use Rattle.gp_cells.specs.declared.view.View.{View}
use Rattle.gp_cells.specs.Words.{IsWord}
use Rattle.gp_cells.specs.kept.Views.{with_found, with_cell, with_stored}
use Rattle.gp_cells.specs.kept.CellRule.{Fills}

-- An exchange from one word to another. Where it found another one, that is told and nothing changes; else the seat has the slot
-- and what was at home there.
abbrev pub Seized : Parts → TableId → Step (Option Carried) → Me (Option Carried) View → ℕ → Me (Option Carried) View → Type 0
Seized program roster s before found after =
    (found ≢ s.first → (after ≡ (with_found before.0 s.word s.second found, before.1)) × IsWord found)
    × (found ≡ s.first → (slot : Option Carried)
    × (after ≡ (with_cell (with_found before.0 s.word s.second found) s.word s.second, (s.word, slot) ∷ before.1))
    × Fills program roster s.word s.first slot)

-- A store, with which the slot goes home.
abbrev pub Settled : Step (Option Carried) → Me (Option Carried) View → ℕ → Me (Option Carried) View → Type 0
Settled s before word after = after ≡ (with_stored before.0 s.word s.first, rest before.1)
