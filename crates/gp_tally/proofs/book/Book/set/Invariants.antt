use Rattle.gp_tally.proofs.book.Book.set.Given as goal

abbrev pub ghosts-change : goal.ghosts-change
ghosts-change a = record { written = a.row.now }
