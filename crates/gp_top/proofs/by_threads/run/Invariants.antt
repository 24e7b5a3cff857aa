-- The run that is made is that of the program and the options.
use Rattle.gp_top.proofs.by_threads.run.Given as goal

abbrev pub ghosts-run_named : goal.ghosts-run_named
ghosts-run_named g a = record { program = a.program.now; settings = a.settings.now }
