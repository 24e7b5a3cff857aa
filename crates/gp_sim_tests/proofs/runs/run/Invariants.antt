-- The run that is made is that of the case's program and options.
use Rattle.gp_sim_tests.proofs.runs.run.Given as goal

abbrev pub ghosts-run_and_tell : goal.ghosts-run_and_tell
ghosts-run_and_tell a = record { program = a.program.now; settings = a.settings.now }
