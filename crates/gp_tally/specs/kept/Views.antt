-- What the seats of a book and of its shares know, and what each kind of step makes of it.
use Rattle.std.specs.Prelude.{◌≡◌, ℕ, List, [], ◌∷◌, ◌++◌, length, true, false, Some, slice_get, slice_set}
use Rattle.atomic_table.specs.Table.{Me, Step}
use Rattle.gp_tally.specs.declared.row.Row.{Row}
use Rattle.gp_tally.specs.declared.view.View.{View}

abbrev pub no_row : Row
no_row = record { a = 0; b = 0; c = 0; d = 0 }

-- a book with no share in hand knows all rows
abbrev pub keeper : List Row → View
keeper rows = record { keeps = true; rows = rows; claims = false; number = 0; claim = no_row }

-- a share knows its number and its row
abbrev pub claimer : ℕ → Row → View
claimer number row = record { keeps = false; rows = []; claims = true; number = number; claim = row }

-- a book with a share in hand
abbrev pub holder : List Row → ℕ → Row → View
holder rows number row = record { keeps = true; rows = rows; claims = true; number = number; claim = row }

-- a seat that was joined
abbrev pub nobody : View
nobody = record { keeps = false; rows = []; claims = false; number = 0; claim = no_row }

-- what is the book's, and what is the share's
abbrev pub book_of : View → View
book_of v = record { keeps = v.keeps; rows = v.rows; claims = false; number = 0; claim = no_row }

abbrev pub share_of : View → View
share_of v = record { keeps = false; rows = []; claims = v.claims; number = v.number; claim = v.claim }

abbrev pub with_share : View → View → View
with_share v w = record { keeps = v.keeps; rows = v.rows; claims = w.claims; number = w.number; claim = w.claim }

module _ {S : Type 0} where
  -- a load that changes nothing
  abbrev pub found : Step S → Me S View → ℕ → Me S View → Type 0
  found s before n after = (after ≡ before) × (slice_get before.0.rows before.0.number ≡ Some before.0.claim)

  -- a load that adds a row, whose share is in hand afterwards
  abbrev pub added : Row → Step S → Me S View → ℕ → Me S View → Type 0
  added row s before n after = after ≡ (holder (before.0.rows ++ row ∷ []) (length before.0.rows) row, before.1)

  -- a load that changes the row of the share in hand
  abbrev pub changed : Row → Step S → Me S View → ℕ → Me S View → Type 0
  changed row s before n after =
      (after ≡ (holder (slice_set before.0.rows before.0.number row) before.0.number row, before.1))
      × (slice_get before.0.rows before.0.number ≡ Some before.0.claim)
