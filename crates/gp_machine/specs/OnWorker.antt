-- What is asked and told of workers and of the goroutines that they run, after a journal of a program's run.
use Rattle.std.specs.Prelude.{◌≡◌, ◌<◌, ℕ, Bool, true, is_some, length, take, count_by, List, Some}
use Rattle.gp_isa.specs.declared.parts.Parts.{Parts}
use Rattle.gp_stack.specs.Peek.{operation_of}
use Rattle.gp_stack.specs.declared.peek.Peek.{Peek}
use Rattle.gp_stack.specs.declared.statement.Operation.{Operation}
use Rattle.gp_journal.specs.declared.answer.Foreseen.{Foreseen}
use Rattle.gp_journal.specs.declared.entry.Entry.{Entry}
use Rattle.gp_journal.specs.declared.entry.Entry.TheVariants.{Op}
use Rattle.gp_journal.specs.declared.goroutine.Worker.{Worker}
use Rattle.gp_journal.specs.declared.settings.Settings.{Settings}
use Rattle.gp_journal.specs.State.{State, code_of, worker}
use Rattle.gp_journal.specs.Due.{due, next_instruction}
use Rattle.gp_journal.specs.May.{IsDue}
use Rattle.gp_journal.specs.Answer.{foreseen}
use Rattle.gp_journal.specs.Run.{state_of}
use Rattle.gp_journal.specs.Shown.{IsPeekAt}

-- whether a worker runs a goroutine
abbrev pub is_busy : Worker → Bool
is_busy w = is_some w.runs

-- how many workers do
abbrev pub busy : State → ℕ
busy state = count_by is_busy state.workers

-- A worker stands at a place, counted from 0, among those that run a goroutine.
pub record IsBusyAt (state : State) (place w : ℕ) : Type 0 where
  pub within : w < length state.workers
  pub runs : is_busy (worker state w) ≡ true
  pub before : count_by is_busy (take w state.workers) ≡ place

-- something holds of the goroutine that a worker runs, if it runs one
abbrev pub OfRunner : State → ℕ → (ℕ → Type 0) → Type 0
OfRunner state w P = (g : ℕ) → (worker state w).runs ≡ Some g → P g

-- a look ahead is at its next points
abbrev pub IsPeekOn : Parts → Settings → List Entry → ℕ → Peek → Type 0
IsPeekOn program settings journal w peek =
    let state = state_of program settings journal in OfRunner state w (λ g. IsPeekAt (code_of program) state g peek)

-- an entry is due
abbrev pub IsDueOn : Parts → Settings → List Entry → ℕ → Entry → Type 0
IsDueOn program settings journal w entry =
    let state = state_of program settings journal in OfRunner state w (λ g. entry ≡ due (code_of program) settings state w g)

-- its Op is due
abbrev pub OpIsDueOn : Parts → Settings → List Entry → ℕ → Type 0
OpIsDueOn program settings journal w =
    let state = state_of program settings journal in OfRunner state w (λ g. IsDue (code_of program) settings state w g (Op w g))

-- an operation is what its next point does
abbrev pub IsNextOn : Parts → Settings → List Entry → ℕ → Operation → Type 0
IsNextOn program settings journal w operation =
    let state = state_of program settings journal in
    OfRunner state w (λ g. operation_of (next_instruction (code_of program) state g) ≡ Some operation)

-- what its due Op will tell
abbrev pub IsForeseenOn : Parts → Settings → List Entry → ℕ → Foreseen → Type 0
IsForeseenOn program settings journal w told =
    let state = state_of program settings journal in OfRunner state w (λ g. told ≡ foreseen (code_of program) state g)
