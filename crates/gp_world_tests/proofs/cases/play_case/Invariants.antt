-- The world is that of the case's program and options.
use Rattle.gp_world_tests.proofs.cases.play_case.Given as goal

abbrev pub ghosts-play_rows : goal.ghosts-play_rows
ghosts-play_rows a = record { program = a.program.now; settings = a.settings.now }
