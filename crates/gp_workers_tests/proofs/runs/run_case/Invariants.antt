-- The run that is made is that of the case's program and options.
use Rattle.gp_workers_tests.proofs.runs.run_case.Given as goal

abbrev pub ghosts-run_once : goal.ghosts-run_once
ghosts-run_once g a = record { program = a.program.now; settings = a.settings.now }
