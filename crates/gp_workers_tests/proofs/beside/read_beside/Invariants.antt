-- The book whose shares the actors have, and the ring whose end the reader has, are those of the world as it begins.
use Rattle.gp_workers_tests.proofs.beside.read_beside.Given as goal

abbrev pub ghosts-read_named : goal.ghosts-read_named
ghosts-read_named g a = record { book = a.made.world.book; ring = a.made.reader.ring }
