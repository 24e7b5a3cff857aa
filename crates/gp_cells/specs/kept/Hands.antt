-- What a hand keeps: its seat holds the cell, whose word has these parts, and the slot, out of which the body was taken.
use Rattle.std.specs.Prelude.{◌≡◌, ◌<◌, ℕ, Bool, [], ◌∷◌, true, Option, None}
use Rattle.atomic_table.specs.Seated.{TableId}
use Rattle.atomic_table.specs.Table.{Me}
use Rattle.gp_cells.specs.declared.carried.Carried.{Carried}
use Rattle.gp_cells.specs.declared.view.View.{View}
use Rattle.gp_cells.specs.Words.{busy_word}

pub record IsHand (cells : TableId) (me : Me (Option Carried) View) (cell : ℕ) (claims : Bool) (epoch actor : ℕ) : Type 0 where
  pub holds : me.0.holds ≡ true
  pub its_cell : me.0.cell ≡ cell
  pub its_word : me.0.word ≡ busy_word claims epoch actor
  pub slot : me.1 ≡ (cell, None) ∷ []
  pub within : cell < cells.words
  pub epoch_fits : epoch < 1073741824
