-- Which run it is, is told by the program and the options.
use Rattle.gp_workers_tests.proofs.beside.beside.Given as goal

abbrev pub ghosts-read_beside : goal.ghosts-read_beside
ghosts-read_beside g a = record { program = a.program.now; settings = a.settings.now }
