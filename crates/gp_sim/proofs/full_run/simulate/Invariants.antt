-- The run so far is a part of the choice's, and each turn leaves one fewer.
use Rattle.std.proofs.Common.{◌-◌}
use Rattle.gp_sim.specs.Choice.{most_turns}
use Rattle.gp_sim.specs.kept.Turns.{IsPartOfSim}
use Rattle.gp_sim.proofs.full_run.simulate.Given as goal

abbrev pub invariant-loop-simulation : goal.invariant-loop-simulation
invariant-loop-simulation g l = record { part : IsPartOfSim g.R.Run.program g.R.Run.settings l.turns l.simulation }

abbrev pub decreases-loop-simulation : goal.decreases-loop-simulation
decreases-loop-simulation g l = most_turns g.R.Run.settings - l.turns
