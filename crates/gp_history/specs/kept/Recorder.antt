-- What a recorder keeps.
use Rattle.std.specs.Prelude.{◌≡◌, ◌+◌, ◌≤◌, ℕ, List, [], ◌∷◌, length, replicate, Option, Some, None}
use Rattle.gp_stack.specs.declared.record.Record.{Record as Row}
use Rattle.gp_history.specs.Recorder.{Reserved}

-- room for a profile of which nothing is recorded
abbrev pub vacant : ℕ → Reserved
vacant room = record { rows = []; room = room }

-- the rows of the profile that is recorded, if there is one
abbrev pub current_rows : Option Reserved → List (List Row)
current_rows None = []
current_rows (Some it) = it.rows ∷ []

-- There is room for all profiles among those that are closed, and what is left is empty and large enough.
pub record FitsRecorder (room : ℕ) (closed : List (List Row)) (current : Option Reserved) (spare : List Reserved) (each : ℕ) : Type 0 where
  pub places : length closed + length (current_rows current) + length spare ≤ room
  pub current_room : (it : Reserved) → current ≡ Some it → it.room ≡ each
  pub spare_room : spare ≡ replicate (length spare) (vacant each)
