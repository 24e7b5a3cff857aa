-- The laws of waits: how they grow, that they are told beforehand, and how long they are.
use Rattle.std.specs.Prelude.{◌≡◌, ◌+◌, ◌*◌, ◌≤◌, ℕ, List, [], ◌∷◌, ◌++◌, Option, Some, None}
use Rattle.std.specs.List.{AllByRecursion}
use Rattle.gp_journal.specs.declared.entry.Entry.{Entry}
use Rattle.gp_journal.specs.declared.settings.Settings.{Settings}
use Rattle.gp_journal.specs.State.{Code, State, goroutine}
use Rattle.gp_journal.specs.Answer.{foreseen, instruction_time}
use Rattle.gp_journal.specs.Run.{IsLegal, last}
use Rattle.gp_journal.specs.Waits.{Waited, wait_ended, contention_by, ended_at, contention_at, waits_of, contentions_of}

-- With one entry more come the wait that it ends and the one at an unlock, each behind the others.
abbrev pub WaitsGrow : Type 0
WaitsGrow = (code : Code) (settings : Settings) (journal : List Entry) (entry : Entry) →
    waits_of code settings (journal ++ entry ∷ []) ≡ waits_of code settings journal ++ ended_at code (last code settings journal) entry

abbrev pub ContentionsGrow : Type 0
ContentionsGrow = (code : Code) (settings : Settings) (journal : List Entry) (entry : Entry) →
    contentions_of code settings (journal ++ entry ∷ [])
    ≡ contentions_of code settings journal ++ contention_at code (last code settings journal) entry

-- the delay of the first of some waits
abbrev pub first_delay : List Waited → Option ℕ
first_delay [] = None
first_delay (it ∷ rest) = Some it.delay

-- What is foreseen of an Op of g tells both delays.
pub record IsForeseen (code : Code) (state : State) (g : ℕ) : Type 0 where
  pub ended : (foreseen code state g).wait ≡ first_delay (wait_ended code (goroutine state g))
  pub contended : (foreseen code state g).contended ≡ first_delay (contention_by code state g)

-- So it is after every legal journal.
abbrev pub WaitsAreForeseen : Type 0
WaitsAreForeseen = (code : Code) (settings : Settings) (journal : List Entry) (g : ℕ) →
    IsLegal code settings journal → IsForeseen code (last code settings journal) g

-- No wait took longer than the run so far, or 1 nanosecond.
pub record WaitsFit (code : Code) (state : State) (g : ℕ) : Type 0 where
  pub ended : AllByRecursion (λ (it : Waited). it.delay ≤ instruction_time * state.clock + 1) (wait_ended code (goroutine state g))
  pub contended : AllByRecursion (λ (it : Waited). it.delay ≤ instruction_time * state.clock) (contention_by code state g)

abbrev pub WaitsAreShort : Type 0
WaitsAreShort = (code : Code) (settings : Settings) (journal : List Entry) (g : ℕ) →
    IsLegal code settings journal → WaitsFit code (last code settings journal) g
