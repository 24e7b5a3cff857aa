-- When an actor has nothing to do.
use Rattle.std.specs.Prelude.{◌≡◌, ◌<◌, ◌⊎◌, true, false, [], Some}
use Rattle.gp_isa.specs.declared.parts.Parts.{Parts}
use Rattle.gp_journal.specs.declared.settings.Settings.{Settings}
use Rattle.gp_journal.specs.Due.{asked, IsComplete}
use Rattle.gp_journal.specs.Run.{state_of}
use Rattle.gp_journal.specs.State.{State, running}
use Rattle.gp_tally.specs.declared.row.Row.{Row}
use Rattle.gp_world.specs.Calls.{may_not_start}
use Rattle.gp_world.specs.Rows.{runs_one}
use Rattle.gp_world.specs.Scene.{Scene}
use Rattle.gp_world.specs.declared.begun.Begun.{Begun}
use Rattle.gp_world.specs.declared.begun.Begun.TheVariants.{NotNow}

-- A worker: it runs nobody; and a profile is asked for, the run is over, or nobody waits.
pub record NothingToStart (program : Parts) (settings : Settings) (world : Scene) (row : Row) : Type 0 where
  pub runs_nobody : row.a < runs_one
  pub why : (may_not_start settings (state_of program settings world.journal) ≡ true) ⊎ (world.waiting ≡ [])

-- The profiler: no profile is active; and one is asked for while somebody runs, or none is and the run isn't complete.
pub record NothingToServe (settings : Settings) (state : State) : Type 0 where
  pub none_active : state.active ≡ 0
  pub why : ((asked settings state ≡ true) × (0 < running state)) ⊎ ((asked settings state ≡ false) × (IsComplete settings state → ⊥))

-- A start that wasn't made; and one that gave its copy back.
abbrev pub IsPutBack : Begun → Type 0
IsPutBack (NotNow copy epoch) = Unit {0}
IsPutBack _ = ⊥

abbrev pub GivesBack : Begun → Type 0
GivesBack (NotNow (Some copy) epoch) = Unit {0}
GivesBack _ = ⊥
