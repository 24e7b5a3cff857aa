use Rattle.gp_journal.specs.Named.{no_settings}
use Rattle.gp_cells_tests.proofs.row.row_on.Given as goal

-- the book that was made, and the program
abbrev pub ghosts-named_row-K-Roster : goal.ghosts-named_row-K-Roster
ghosts-named_row-K-Roster g a = record { roster = a.book.now.book }

abbrev pub ghosts-named_row-R-Run : goal.ghosts-named_row-R-Run
ghosts-named_row-R-Run g a = record { program = a.program.now; settings = no_settings }
