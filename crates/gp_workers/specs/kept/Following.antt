-- What is known between the two halves of a worker's turn.
use Rattle.std.specs.Prelude.{◌≡◌, ◌≤◌, ◌<◌, ◌++◌, ◌∷◌, [], ℕ, List, length, get_or}
use Rattle.gp_isa.specs.declared.parts.Parts.{Parts}
use Rattle.gp_stack.specs.Body.{Progress, progress_of, StandsIn, ahead_at}
use Rattle.gp_journal.specs.Bodies.{nowhere, moved_on}
use Rattle.gp_tally.specs.Rows.{Part}
use Rattle.gp_world.specs.declared.begun.Begun.{Begun}
use Rattle.gp_world.specs.declared.begun.Begun.TheVariants.{NeedCopy}
use Rattle.gp_world.specs.declared.step.Step.{Step}
use Rattle.gp_world.specs.declared.step.Step.TheVariants.{Advance, Born}
use Rattle.gp_world.specs.Scene.{Scene}

-- Where a start wants a copy first, nothing was entered, and the worker has whom it has picked.
abbrev pub NeedsCopy : Scene → Scene → Part → Part → Begun → Type 0
NeedsCopy old new was who (NeedCopy epoch) = (new ≡ old) × ((who.row.a ≡ was.row.a) × (who.row.b ≡ was.row.b))
NeedsCopy old new was who _ = Unit {0}

-- What a step tells can be done with the bodies: there are points to advance by, and room for the newborn's.
abbrev pub CanFollow : Parts → ℕ → ℕ → List Progress → Step → Type 0
CanFollow program g room places (Advance n) = n ≤ ahead_at program (get_or places g nowhere)
CanFollow program g room places (Born h epoch body died) = StandsIn program body × (length places < room)
CanFollow program g room places _ = Unit {0}

-- Where they stand behind it.
abbrev pub places_behind : ℕ → Step → List Progress → List Progress
places_behind g (Advance n) places = moved_on places g n
places_behind g (Born h epoch body died) places = places ++ progress_of body ∷ []
places_behind g _ places = places
