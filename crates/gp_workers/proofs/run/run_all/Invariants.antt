-- The book whose shares the actors have, and the ring whose end the reader has, are those of the world as it begins.
use Rattle.gp_workers.proofs.run.run_all.Given as goal

abbrev pub ghosts-run_named : goal.ghosts-run_named
ghosts-run_named g a = record { book = a.made.world.book; ring = a.made.reader.ring }
