-- The core that is made is one of the case's program and options.
use Rattle.gp_core_tests.proofs.cores.answers.Given as goal

abbrev pub ghosts-answer : goal.ghosts-answer
ghosts-answer a = record { program = a.program.now; settings = a.settings.now }
