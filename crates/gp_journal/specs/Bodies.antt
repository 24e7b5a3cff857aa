-- The bodies of a run's goroutines: where each stands, and that it stands where its goroutine does.
use Rattle.std.specs.Prelude.{◌≡◌, ◌+◌, ℕ, true, List, [], ◌∷◌, ◌++◌, length, get_or, set, map}
use Rattle.std.specs.List.{AllByRecursion}
use Rattle.gp_isa.specs.declared.parts.Parts.{Parts}
use Rattle.gp_stack.specs.declared.body.Body.{Body}
use Rattle.gp_stack.specs.Body.{Progress, progress_of, StandsIn}
use Rattle.gp_journal.specs.declared.answer.Applied.{Applied}
use Rattle.gp_journal.specs.declared.answer.Applied.TheVariants.{Passed, Born}
use Rattle.gp_journal.specs.declared.goroutine.Goroutine.{Goroutine}
use Rattle.gp_journal.specs.State.{State, goroutine, is_live}

-- where a body stands that was never born
abbrev pub nowhere : Progress
nowhere = record { start = 0; set = 0; count = 0 }

-- where a goroutine stands
abbrev pub standing : Goroutine → Progress
standing it = record { start = it.start; set = it.set; count = it.count }

-- all bodies stand in a program
abbrev pub AllStand : Parts → List Body → Type 0
AllStand program bodies = AllByRecursion (StandsIn program) bodies

-- where they stand
abbrev pub progress_each : List Body → List Progress
progress_each bodies = map progress_of bodies

-- There is a body for each goroutine that was born, and that of a live one stands where its goroutine stands.
pub record AreBodiesOf (state : State) (bodies : List Progress) : Type 0 where
  pub each : length bodies ≡ length state.goroutines
  pub live : (g : ℕ) → is_live (goroutine state g) ≡ true → get_or bodies g nowhere ≡ standing (goroutine state g)

-- a place n points further
abbrev pub further : ℕ → Progress → Progress
further n place = record place { count = place.count + n }

-- where bodies stand once that of g has passed n points
abbrev pub moved_on : List Progress → ℕ → ℕ → List Progress
moved_on bodies g n = set bodies g (further n (get_or bodies g nowhere))

-- Where they stand once g came to a shared point, by the answer that tells what it did, but for whoever was born there,
abbrev pub followed : ℕ → Applied → List Progress → List Progress
followed g (Passed woke event died) bodies = moved_on bodies g 1
followed g (Born h died) bodies = moved_on bodies g 1
followed g _ bodies = bodies

-- and with that one's behind them, who stands at a place
abbrev pub gained : Applied → Progress → List Progress → List Progress
gained (Born h died) place bodies = bodies ++ place ∷ []
gained _ place bodies = bodies
