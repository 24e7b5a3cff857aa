-- What the calls of a world answer, which entries they make, and what they leave.
use Rattle.std.specs.Prelude.{◌≡◌, ◌⊎◌, ℕ, Bool, true, false, ◌||◌, List, [], ◌∷◌, drop, if◌then◌else◌, Option, Some, None}
use Rattle.gp_isa.specs.declared.parts.Parts.{Parts}
use Rattle.gp_stack.specs.Body.{Progress, progress_of, StandsIn}
use Rattle.gp_stack.specs.declared.record.Record.{Record as Copy}
use Rattle.gp_journal.specs.declared.answer.Applied.{Applied}
use Rattle.gp_journal.specs.declared.answer.Applied.TheVariants as answer
use Rattle.gp_journal.specs.declared.answer.Woken.{Woken}
use Rattle.gp_journal.specs.declared.answer.Wait.{Wait}
use Rattle.gp_journal.specs.declared.entry.Entry.{Entry}
use Rattle.gp_journal.specs.declared.entry.Entry.TheVariants.{Start, Run, Op, Tick, Park, Open, Record}
use Rattle.gp_journal.specs.declared.settings.Settings.{Settings}
use Rattle.gp_journal.specs.Answer.{applied}
use Rattle.gp_journal.specs.Bodies.{standing, further}
use Rattle.gp_journal.specs.Due.{asked, over, due}
use Rattle.gp_journal.specs.Effect.{after}
use Rattle.gp_journal.specs.May.{is_recorded}
use Rattle.gp_journal.specs.Run.{state_of}
use Rattle.gp_journal.specs.State.{Code, State, code_of, goroutine, live, first}
use Rattle.gp_history.specs.Events.{event_of, AddsEvent}
use Rattle.gp_cpu.specs.Samples.{sample_of}
use Rattle.gp_tally.specs.declared.row.Row.{Row}
use Rattle.gp_world.specs.declared.ring_end.RingEnd.{RingEnd}
use Rattle.gp_world.specs.declared.pick.Pick.{Pick}
use Rattle.gp_world.specs.declared.pick.Pick.TheVariants as pick
use Rattle.gp_world.specs.declared.begun.Begun.{Begun}
use Rattle.gp_world.specs.declared.begun.Begun.TheVariants as begun
use Rattle.gp_world.specs.declared.step.Step.{Step}
use Rattle.gp_world.specs.declared.step.Step.TheVariants as step
use Rattle.gp_world.specs.RingEnds.{Tells}
use Rattle.gp_world.specs.Rows.{row_of, has_nothing, has_picked, runs_one, is_done}

-- ---- pick

-- the first of those that wait, if there is one
abbrev pub first_of : ℕ → List ℕ → Pick
first_of epoch [] = pick.Idle
first_of epoch (g ∷ rest) = pick.Go g epoch

-- The run is over; or a profile is asked for, or nobody waits; or the first of those that wait is picked.
abbrev pub pick_of : Settings → State → List ℕ → Pick
pick_of settings state waiting =
    if over settings state then pick.Over else if asked settings state then pick.Idle else first_of state.active waiting

-- who waits behind it
abbrev pub waiting_after_pick : Pick → List ℕ → List ℕ
waiting_after_pick (pick.Go g epoch) waiting = drop 1 waiting
waiting_after_pick _ waiting = waiting

-- and the worker's row
abbrev pub row_after_pick : Parts → Settings → List Entry → ℕ → Row → Pick → Row
row_after_pick program settings journal w row (pick.Go g epoch) = row_of program settings journal w has_picked g
row_after_pick program settings journal w row pick.Idle = row
row_after_pick program settings journal w row pick.Over = row_of program settings journal w is_done 0

-- ---- start

-- whether nothing is started: a profile is asked for, or the run is over
abbrev pub may_not_start : Settings → State → Bool
may_not_start settings state = asked settings state || over settings state

-- whether the run is over once a worker has recorded g
abbrev pub over_by_record : Code → Settings → State → ℕ → ℕ → Bool
over_by_record code settings state w g = over settings (after code settings state (Record w g))

-- the answer where g has still to be recorded
abbrev pub begun_with : Code → Settings → State → ℕ → ℕ → Option Copy → Begun
begun_with code settings state w g None = begun.NeedCopy state.active
begun_with code settings state w g (Some copy) =
    if over_by_record code settings state w g then begun.NotNow None state.active else begun.Started state.active

-- What a start of g on w answers.
abbrev pub begun_of : Code → Settings → State → ℕ → ℕ → Option Copy → Begun
begun_of code settings state w g copy =
    if may_not_start settings state then begun.NotNow copy (goroutine state g).epoch
    else if is_recorded state g then begun.Started (goroutine state g).epoch
    else begun_with code settings state w g copy

-- The entries that it makes: a Start, behind a Record where g has still to be recorded.
abbrev pub entries_with : Code → Settings → State → ℕ → ℕ → Option Copy → List Entry
entries_with code settings state w g None = []
entries_with code settings state w g (Some copy) =
    if over_by_record code settings state w g then Record w g ∷ [] else Record w g ∷ Start w g ∷ []

abbrev pub start_entries : Code → Settings → State → ℕ → ℕ → Option Copy → List Entry
start_entries code settings state w g copy =
    if may_not_start settings state then []
    else if is_recorded state g then Start w g ∷ []
    else entries_with code settings state w g copy

-- who waits behind it: where g isn't started now it stands at the head again
abbrev pub waiting_after_start : Begun → ℕ → List ℕ → List ℕ
waiting_after_start (begun.NotNow copy epoch) g waiting = g ∷ waiting
waiting_after_start _ g waiting = waiting

-- and the worker's row, by the journal behind it
abbrev pub row_after_start : Parts → Settings → List Entry → ℕ → ℕ → Begun → Row
row_after_start program settings journal w g (begun.NotNow copy epoch) = row_of program settings journal w has_nothing 0
row_after_start program settings journal w g (begun.NeedCopy epoch) = row_of program settings journal w has_picked g
row_after_start program settings journal w g (begun.Started epoch) = row_of program settings journal w runs_one g

-- ---- step

-- g passed its point, and its trace ended or didn't
pub record HasPassed (code : Code) (settings : Settings) (state : State) (w g : ℕ) (died : Bool) : Type 0 where
  pub is_op : due code settings state w g ≡ Op w g
  pub woke : Option Woken
  pub event : Option Wait
  pub told : applied code settings state (Op w g) ≡ answer.Passed woke event died

-- g ran its last points
pub record HasRunOut (code : Code) (settings : Settings) (state : State) (w g : ℕ) : Type 0 where
  pub n : ℕ
  pub is_run : due code settings state w g ≡ Run w g n
  pub told : applied code settings state (Run w g n) ≡ answer.Plain true

-- The newborn stands at its start, in a body of the program.
pub record IsNewborn (program : Parts) (now : State) (h epoch : ℕ) (progress : Progress) : Type 0 where
  pub epoch_is : epoch ≡ (goroutine now h).epoch
  pub stands : progress ≡ standing (goroutine now h)

-- What a step of g on w answers to its due entry, by what became of it. One answer alone is right, since the due entry and what
-- it does are told by the state, and what became of a sample by the two ends of the ring, before and after.
abbrev pub IsStep : Parts → Settings → State → (ring next : RingEnd) → ℕ → ℕ → Step → Type 0
IsStep program settings state ring next w g (step.Advance n) =
    (due (code_of program) settings state w g ≡ Run w g n) × (applied (code_of program) settings state (Run w g n) ≡ answer.Plain false)
IsStep program settings state ring next w g step.Died =
    HasRunOut (code_of program) settings state w g ⊎ HasPassed (code_of program) settings state w g true
IsStep program settings state ring next w g (step.Born h epoch body died) =
    (due (code_of program) settings state w g ≡ Op w g)
    × ((applied (code_of program) settings state (Op w g) ≡ answer.Born h died)
    × (StandsIn program body × IsNewborn program (after (code_of program) settings state (Op w g)) h epoch (progress_of body)))
IsStep program settings state ring next w g (step.Ticked wrote_it) =
    (due (code_of program) settings state w g ≡ Tick w g)
    × Tells ring next (sample_of (code_of program) state (goroutine state g)) wrote_it
IsStep program settings state ring next w g step.Passed = HasPassed (code_of program) settings state w g false
IsStep program settings state ring next w g step.Blocked =
    (due (code_of program) settings state w g ≡ Op w g) × (applied (code_of program) settings state (Op w g) ≡ answer.Blocked)
IsStep program settings state ring next w g step.Parked = due (code_of program) settings state w g ≡ Park w g
IsStep program settings state ring next w g (step.Faulted cause) =
    (due (code_of program) settings state w g ≡ Op w g) × (applied (code_of program) settings state (Op w g) ≡ answer.Fault cause)

-- Where its body stands behind an entry that is answered so: one point further where an Op passed its point.
abbrev pub moved_by : Applied → Progress → Progress
moved_by (answer.Passed woke event died) place = further 1 place
moved_by (answer.Born h died) place = further 1 place
moved_by _ place = place

-- A step may want memory only where an Op is due that leaves an event for the sums.
abbrev pub WantsMemory : Parts → Settings → List Entry → ℕ → ℕ → Type 0
WantsMemory program settings journal w g =
    (due (code_of program) settings (state_of program settings journal) w g ≡ Op w g) × AddsEvent (event_of program settings journal g)

-- ---- profiles

-- how many goroutines were live at the last Open of entries, from a state on; so many before the first
abbrev pub live_at_open_from : Code → Settings → State → ℕ → List Entry → ℕ
live_at_open_from code settings state n [] = n
live_at_open_from code settings state n (Open epoch room ∷ entries) =
    live_at_open_from code settings (after code settings state (Open epoch room)) (live state) entries
live_at_open_from code settings state n (entry ∷ entries) =
    live_at_open_from code settings (after code settings state entry) n entries

-- How many goroutines were live at the last Open of a journal, 0 before the first.
unfoldable pub live_at_open : Code → Settings → List Entry → ℕ
live_at_open code settings journal = live_at_open_from code settings (first code settings) 0 journal
