-- What the bodies of a simulated run keep.
use Rattle.std.specs.Prelude.{◌≡◌, ◌≤◌, ℕ, List, [], ◌∷◌, ◌++◌, Option, Some, None}
use Rattle.gp_isa.specs.declared.parts.Parts.{Parts}
use Rattle.gp_isa.specs.Trace.{Point}
use Rattle.gp_stack.specs.Body.{Progress}
use Rattle.gp_stack.specs.Goroutine.{next_point, labels_of}
use Rattle.gp_stack.specs.Peek.{operation_of}
use Rattle.gp_journal.specs.declared.answer.SharedPoint.{SharedPoint}
use Rattle.gp_stack.specs.declared.body.Body.{Body}
use Rattle.gp_journal.specs.declared.settings.Settings.{Settings}
use Rattle.gp_journal.specs.Bodies.{AllStand, moved_on}
use Rattle.gp_machine.specs.declared.at_point.AtPoint.{AtPoint}
use Rattle.gp_machine.specs.declared.at_point.AtPoint.TheVariants.{Stays, Passes, Bears}

-- All stand in the program, and there is room for each cell.
pub record StandInRoom (program : Parts) (settings : Settings) (room : ℕ) (bodies : List Body) : Type 0 where
  pub stand : AllStand program bodies
  pub reserved : settings.cells ≤ room

-- what is shown of a body's next point, which is shared, is what that does, and the labels there
abbrev pub Shows : List Point → Progress → Option SharedPoint → Type 0
Shows points place None = ⊥
Shows points place (Some point) =
    (operation_of (next_point points place.count).instruction ≡ Some point.operation)
    × (point.labels ≡ labels_of points place.set place.count)

-- Where bodies stand once g came to a shared point, by what became of it, but for whoever was born there,
abbrev pub gone_on : ℕ → AtPoint → List Progress → List Progress
gone_on g Stays bodies = bodies
gone_on g Passes bodies = moved_on bodies g 1
gone_on g Bears bodies = moved_on bodies g 1

-- and with that one's behind them, who stands at a place
abbrev pub joined : AtPoint → Progress → List Progress → List Progress
joined Bears place bodies = bodies ++ place ∷ []
joined _ place bodies = bodies
