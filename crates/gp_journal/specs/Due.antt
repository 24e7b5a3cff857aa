-- When a profile is asked for, when a run is over, and which entry of a worker is due.
use Rattle.std.specs.Prelude.{◌≡◌, ◌-◌, ◌%◌, ℕ, min, Bool, true, false, not, ◌&&◌, ◌||◌, ◌==◌, List, [], ◌∷◌, if◌then◌else◌, nat_le}
use Rattle.std.specs.List.{list_any}
use Rattle.gp_isa.specs.Trace.{Instruction, is_local}
use Rattle.gp_stack.specs.Goroutine.{next_point, local_ahead}
use Rattle.gp_journal.specs.declared.entry.Entry.{Entry}
use Rattle.gp_journal.specs.declared.entry.Entry.TheVariants.{Run, Op, Tick, Park}
use Rattle.gp_journal.specs.declared.entry.Ended.{Ended}
use Rattle.gp_journal.specs.declared.entry.Ended.TheVariants.{Main, Fault, Full, Deadlock}
use Rattle.gp_journal.specs.declared.goroutine.Goroutine.{Goroutine}
use Rattle.gp_journal.specs.declared.goroutine.Worker.{Worker}
use Rattle.gp_journal.specs.declared.settings.Request.{Request}
use Rattle.gp_journal.specs.declared.settings.Request.TheVariants.{Clock, End}
use Rattle.gp_journal.specs.declared.settings.Settings.{Settings}
use Rattle.gp_journal.specs.Settings.{period, quantum}
use Rattle.gp_journal.specs.State.{Code, State, goroutine, worker, trace_of, is_runnable, is_running, is_dead, running}

-- the journal is full
abbrev pub is_full : Settings → State → Bool
is_full settings state = nat_le settings.entries state.entries

-- a goroutine is runnable or running
abbrev pub is_ready : Goroutine → Bool
is_ready g = is_runnable g.status || is_running g.status

-- some goroutine is
abbrev pub some_ready : State → Bool
some_ready state = list_any is_ready state.goroutines

-- The run is over once main is dead, after a fault, once the journal is full, and while no goroutine is ready.
unfoldable pub over : Settings → State → Bool
over settings state =
    is_dead (goroutine state 0).status || not (state.fault == 0) || is_full settings state || not (some_ready state)

-- whether an instant is at or below the clock, which never reaches `end`
abbrev pub has_come : ℕ → Request → Bool
has_come now (Clock clock) = nat_le clock now
has_come now End = false

-- whether the next request is to be served
abbrev pub calls_for : Settings → State → List Request → Bool
calls_for settings state [] = false
calls_for settings state (next ∷ later) = has_come state.clock next || over settings state

-- A profile is asked for while no other is active and the first of the requests left is to be served.
unfoldable pub asked : Settings → State → Bool
asked settings state = (state.active == 0) && calls_for settings state state.requests

-- The run is complete: over, with nobody running, no profile active and no request left.
pub record IsComplete (settings : Settings) (state : State) : Type 0 where
  pub is_over : over settings state ≡ true
  pub nobody_runs : running state ≡ 0
  pub none_active : state.active ≡ 0
  pub none_left : state.requests ≡ []

-- How a run ended: by a fault, else by main, else full where a goroutine could go on, else by deadlock.
abbrev pub ended : State → Ended
ended state =
    if not (state.fault == 0) then Fault state.fault
    else if is_dead (goroutine state 0).status then Main
    else if list_any (λ g. is_runnable g.status) state.goroutines then Full
    else Deadlock

-- what is done at the next point of g
abbrev pub next_instruction : Code → State → ℕ → Instruction
next_instruction code state g = (next_point (trace_of code (goroutine state g)) (goroutine state g).count).instruction

-- how many instructions of a worker are left to its next CPU tick
abbrev pub to_tick : Settings → Worker → ℕ
to_tick settings w = period settings - w.instructions % period settings

-- how many local points a Run of g on w passes: up to the next shared point or the trace's end, the next multiple
-- of the tick's period, or the quantum
unfoldable pub extent : Code → Settings → State → ℕ → ℕ → ℕ
extent code settings state w g =
    min (local_ahead (trace_of code (goroutine state g)) (goroutine state g).count)
    (min (to_tick settings (worker state w)) (quantum - (worker state w).slice))

-- What is due while w runs g: a Tick where its tick is due; else a Park where g has to make way, for a profile, at the
-- end of the run or of the slice; else an Op where the next point is shared; else a Run.
unfoldable pub due : Code → Settings → State → ℕ → ℕ → Entry
due code settings state w g =
    if (worker state w).tick then Tick w g
    else if asked settings state || over settings state || ((worker state w).slice == quantum) then Park w g
    else if not (is_local (next_instruction code state g)) then Op w g
    else Run w g (extent code settings state w g)
