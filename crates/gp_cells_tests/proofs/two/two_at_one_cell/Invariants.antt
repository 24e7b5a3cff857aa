use Rattle.gp_journal.specs.Named.{no_settings}
use Rattle.gp_cells_tests.proofs.two.two_at_one_cell.Given as goal

-- the book that was made, and the program
abbrev pub ghosts-at_one_cell-K-Roster : goal.ghosts-at_one_cell-K-Roster
ghosts-at_one_cell-K-Roster g a = record { roster = a.book.book }

abbrev pub ghosts-at_one_cell-R-Run : goal.ghosts-at_one_cell-R-Run
ghosts-at_one_cell-R-Run g a = record { program = a.program.now; settings = no_settings }
