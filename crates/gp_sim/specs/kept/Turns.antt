-- A run that is built turn by turn.
use Rattle.std.specs.Prelude.{◌≡◌, ◌+◌, ◌-◌, ◌≤◌, ℕ, length}
use Rattle.gp_isa.specs.declared.parts.Parts.{Parts}
use Rattle.gp_journal.specs.declared.settings.Settings.{Settings}
use Rattle.gp_journal.specs.State.{code_of}
use Rattle.gp_journal.specs.Run.{IsLegal}
use Rattle.gp_sim.specs.Choice.{SoFar, most_turns, after_turns, sim_run}
use Rattle.gp_sim.specs.kept.Simulation.{KeepsItsRing}

-- What a run has after so many turns is a part of the choice's: its journal is legal, its ring is kept, and the choice goes
-- on from it by the turns that are left. No turn takes more than one number, and each makes an entry or takes a record.
pub record IsPartOfSim (program : Parts) (settings : Settings) (turns : ℕ) (run : SoFar) : Type 0 where
  pub legal : IsLegal (code_of program) settings run.journal
  pub ring : KeepsItsRing program settings run
  pub taken_bound : run.taken ≤ turns
  pub turns_bound : turns ≤ length run.journal + length run.records
  pub entries_bound : length run.journal ≤ turns
  pub continues : sim_run program settings ≡ after_turns (code_of program) settings (most_turns settings - turns) run
