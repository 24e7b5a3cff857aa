-- The waits that a run's Ops end, and those of whom its unlocks wake, read off the states before these Ops.
use Rattle.std.specs.Prelude.{◌-◌, ◌*◌, ℕ, List, [], ◌∷◌, ◌++◌, take, if◌then◌else◌, Option, Some, None}
use Rattle.gp_isa.specs.Limits.{block_frames, mutex_frames}
use Rattle.gp_isa.specs.declared.frame.Frame.{Frame}
use Rattle.gp_isa.specs.Trace.{Instruction, Unlock}
use Rattle.gp_stack.specs.Goroutine.{stack_of}
use Rattle.gp_sync.specs.declared.effect.Waiter.{Waiter}
use Rattle.gp_sync.specs.Operations.{Mutex}
use Rattle.gp_journal.specs.declared.entry.Entry.{Entry}
use Rattle.gp_journal.specs.declared.entry.Entry.TheVariants.{Op}
use Rattle.gp_journal.specs.declared.goroutine.Goroutine.{Goroutine}
use Rattle.gp_journal.specs.declared.settings.Settings.{Settings}
use Rattle.gp_journal.specs.State.{Code, State, goroutine, mutex, trace_of, first}
use Rattle.gp_journal.specs.Due.{next_instruction}
use Rattle.gp_journal.specs.Effect.{after}
use Rattle.gp_journal.specs.Answer.{block_delay, instruction_time}

-- A wait: the stack that it is put down to, and how many nanoseconds it took.
pub record Waited : Type 0 where
  pub stack : List Frame
  pub delay : ℕ

-- the stack of a goroutine, cut to so many frames
abbrev pub cut_stack : ℕ → Code → Goroutine → List Frame
cut_stack frames code it = take frames (stack_of (trace_of code it) it.count)

-- An Op at a granted point ends the wait that began there: from the clock at which its goroutine blocked to that at which
-- it was woken, and 1 at least. It is put down to the stack of that goroutine, which waited.
abbrev pub wait_ended : Code → Goroutine → List Waited
wait_ended code it =
    if it.granted then record { stack = cut_stack block_frames code it; delay = block_delay it } ∷ [] else []

-- who waits first, if anyone does
abbrev pub first_waiter : List Waiter → Option ℕ
first_waiter [] = None
first_waiter (head ∷ rest) = Some head.g

-- to whom an unlock hands a mutex over: where it is held, to the one who waits first
abbrev pub heir : Mutex → Option ℕ
heir mutex = if mutex.held then first_waiter mutex.waiters else None

-- whom an instruction hands a mutex over to
abbrev pub hands_over_to : State → Instruction → Option ℕ
hands_over_to state (Unlock m) = heir (mutex state m)
hands_over_to state _ = None

-- An Op at an unlock is contended where it hands the mutex over. The one who gets it has waited since the clock at which it
-- blocked. That wait is put down to the stack of the goroutine that unlocks.
abbrev pub wait_for : Code → State → ℕ → Option ℕ → List Waited
wait_for code state g None = []
wait_for code state g (Some h) =
    record {
      stack = cut_stack mutex_frames code (goroutine state g);
      delay = instruction_time * (state.clock - (goroutine state h).blocked);
    } ∷ []

-- what the Op of g makes one wait for whom it wakes; a granted point is passed without a look at its mutex
abbrev pub contention_by : Code → State → ℕ → List Waited
contention_by code state g =
    wait_for code state g (if (goroutine state g).granted then None else hands_over_to state (next_instruction code state g))

-- that of an entry
abbrev pub ended_at : Code → State → Entry → List Waited
ended_at code state (Op w g) = wait_ended code (goroutine state g)
ended_at code state _ = []

abbrev pub contention_at : Code → State → Entry → List Waited
contention_at code state (Op w g) = contention_by code state g
contention_at code state _ = []

-- what is told of each entry, with the state before it, from a state on
abbrev pub gathered : (Code → State → Entry → List Waited) → Code → Settings → State → List Entry → List Waited
gathered tell code settings state [] = []
gathered tell code settings state (entry ∷ entries) =
    tell code state entry ++ gathered tell code settings (after code settings state entry) entries

-- The waits that ended in a journal, in the order of the Ops that end them.
unfoldable pub waits_of : Code → Settings → List Entry → List Waited
waits_of code settings journal = gathered ended_at code settings (first code settings) journal

-- The waits at the contended unlocks of a journal, in their order.
unfoldable pub contentions_of : Code → Settings → List Entry → List Waited
contentions_of code settings journal = gathered contention_at code settings (first code settings) journal
