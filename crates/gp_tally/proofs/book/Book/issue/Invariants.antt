use Rattle.gp_tally.proofs.book.Book.issue.Given as goal

abbrev pub ghosts-add : goal.ghosts-add
ghosts-add a = record { written = a.row.now }
