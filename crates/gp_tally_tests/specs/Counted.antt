-- A row that counts turns, and the name of no book.
use Rattle.std.specs.Prelude.{ℕ, []}
use Rattle.atomic_table.specs.Seated.{TableId}
use Rattle.gp_tally.specs.declared.row.Row.{Row}

-- the row of an owner that took so many turns
abbrev pub counted : ℕ → Row
counted turns = record { a = turns; b = 0; c = 0; d = 0 }

abbrev pub no_book : TableId
no_book = record { words = 0; slots = 0; views_name = 0; atom = 0; block = 0; offset = 0; slot_names = [] }
