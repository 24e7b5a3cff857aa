-- What the calls of a worker know of whom it has picked, and of whom it runs.
use Rattle.std.specs.Prelude.{◌≡◌, ◌<◌, ℕ, true, List, [], ◌∷◌, ◌++◌, length}
use Rattle.gp_isa.specs.declared.parts.Parts.{Parts}
use Rattle.gp_stack.specs.Body.{Progress}
use Rattle.gp_stack.specs.declared.statement.Operation.{Operation}
use Rattle.gp_stack.specs.declared.statement.Operation.TheVariants as operation
use Rattle.gp_journal.specs.declared.answer.SharedPoint.{SharedPoint}
use Rattle.gp_journal.specs.declared.entry.Entry.{Entry}
use Rattle.gp_journal.specs.declared.goroutine.Status.TheVariants.{Runnable}
use Rattle.gp_journal.specs.declared.settings.Settings.{Settings}
use Rattle.gp_journal.specs.Answer.{applied}
use Rattle.gp_journal.specs.Run.{state_of}
use Rattle.gp_journal.specs.State.{code_of, goroutine, is_idle}
use Rattle.gp_journal.specs.StepLaws.{joining}
use Rattle.gp_cpu.specs.Samples.{sampled_at}
use Rattle.gp_tally.specs.declared.row.Row.{Row}
use Rattle.gp_world.specs.declared.step.Step.{Step}
use Rattle.gp_world.specs.Calls.{IsStep, moved_by}
use Rattle.gp_world.specs.RingEnds.{with_sampled}
use Rattle.gp_world.specs.Rows.{has_picked, row_of}
use Rattle.gp_world.specs.Scene.{Scene}

-- A worker with such a row has picked g: it is idle, and g is runnable.
pub record HasPicked (program : Parts) (settings : Settings) (journal : List Entry) (w : ℕ) (row : Row) (g : ℕ) : Type 0 where
  pub its_row : row ≡ row_of program settings journal w has_picked g
  pub idle : is_idle (state_of program settings journal) w ≡ true
  pub runnable : (goroutine (state_of program settings journal) g).status ≡ Runnable

-- A scene after an entry that is due; what a sample's write loaded and found is told by the next one.
abbrev pub after_due : Parts → Settings → (scene next : Scene) → Entry → Scene
after_due program settings scene next made = record scene {
  journal = scene.journal ++ made ∷ [];
  waiting = scene.waiting ++ joining made (applied (code_of program) settings (state_of program settings scene.journal) made);
  ring = with_sampled scene.ring next.ring (sampled_at (code_of program) (state_of program settings scene.journal) made);
}

-- What a step of g on w answers, in a scene, with the next one.
abbrev pub IsStepIn : Parts → Settings → (scene next : Scene) → ℕ → ℕ → Step → Type 0
IsStepIn program settings scene next w g it =
    IsStep program settings (state_of program settings scene.journal) scene.ring next.ring w g it

-- Where a body stands behind an entry.
abbrev pub moved_with : Parts → Settings → Scene → Entry → Progress → Progress
moved_with program settings scene made place =
    moved_by (applied (code_of program) settings (state_of program settings scene.journal) made) place

-- the function of whom an operation bears
abbrev pub start_of : Operation → ℕ
start_of (operation.Spawn f) = f
start_of _ = 0

-- The next point of a goroutine that bears another: the function that it spawns is the program's.
abbrev pub BearsIn : Parts → Operation → Type 0
BearsIn program (operation.Spawn f) = f < length program.functions
BearsIn program _ = ⊥

-- where a newborn stands
abbrev pub place_of_newborn : SharedPoint → Progress
place_of_newborn point = record { start = start_of point.operation; set = point.labels; count = 0 }
