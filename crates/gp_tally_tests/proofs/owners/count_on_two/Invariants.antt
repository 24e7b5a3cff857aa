use Rattle.gp_tally_tests.proofs.owners.count_on_two.Given as goal

-- the book that was just made
abbrev pub ghosts-count_named : goal.ghosts-count_named
ghosts-count_named g a = record { named = a.book.book }
