-- What an entry tells: who was woken, who was born, whose trace ended, and how long somebody waited.
use Rattle.std.specs.Prelude.{◌-◌, ◌*◌, ℕ, max, Bool, false, List, [], ◌∷◌, if◌then◌else◌, nat_lt, Option, Some, None}
pub use Rattle.gp_isa.specs.Limits.{instruction_time}
use Rattle.gp_isa.specs.Trace.{Instruction, Unlock}
use Rattle.gp_stack.specs.Peek.{operation_of}
use Rattle.gp_sync.specs.declared.effect.Effect.{Effect}
use Rattle.gp_sync.specs.declared.effect.Effect.TheVariants as effect
use Rattle.gp_sync.specs.declared.effect.Waiter.{Waiter}
use Rattle.gp_sync.specs.Operations.{Mutex}
use Rattle.gp_journal.specs.declared.answer.Applied.{Applied}
use Rattle.gp_journal.specs.declared.answer.Applied.TheVariants.{Plain, Passed, Born, Blocked, Fault}
use Rattle.gp_journal.specs.declared.answer.Foreseen.{Foreseen}
use Rattle.gp_journal.specs.declared.entry.Entry.{Entry}
use Rattle.gp_journal.specs.declared.entry.Entry.TheVariants.{Run, Op}
use Rattle.gp_journal.specs.declared.goroutine.Goroutine.{Goroutine}
use Rattle.gp_journal.specs.declared.settings.Settings.{Settings}
use Rattle.gp_journal.specs.State.{Code, State, goroutine, mutex, births}
use Rattle.gp_journal.specs.Due.{next_instruction}
use Rattle.gp_journal.specs.Effect.{is_over_after, is_last_point, unlock_of_free, no_cell, Outcome, Meets, Spawns, Stays, outcome_of}

-- The delay of a block event: from the clock at which the goroutine blocked to that at which it was woken, in
-- nanoseconds, and 1 at least.
abbrev pub block_delay : Goroutine → ℕ
block_delay g = max 1 (instruction_time * (g.woken - g.blocked))

-- An Op at a granted point ends a wait, which is a block event.
abbrev pub ended_wait : Goroutine → Option ℕ
ended_wait g = if g.granted then Some (block_delay g) else None

-- how long the first of some waiters has waited at a clock, in nanoseconds
abbrev pub first_wait : ℕ → List Waiter → Option ℕ
first_wait clock [] = None
first_wait clock (head ∷ rest) = Some (instruction_time * (clock - head.since))

-- An unlock is contended where the mutex is held and somebody waits.
abbrev pub contention : ℕ → Mutex → Option ℕ
contention clock mutex = if mutex.held then first_wait clock mutex.waiters else None

abbrev pub contention_of : State → Instruction → Option ℕ
contention_of state (Unlock m) = contention state.clock (mutex state m)
contention_of state _ = None

-- What the Op of g at its next point will tell. A granted point is passed without a look at its mutex.
abbrev pub foreseen : Code → State → ℕ → Foreseen
foreseen code state g = record {
  wait = ended_wait (goroutine state g);
  contended = if (goroutine state g).granted then None else contention_of state (next_instruction code state g);
}

-- the answer to an operation's effect: `contended` tells that it was an unlock, `died` that the trace ends
abbrev pub answer_to : Bool → Bool → Effect → Applied
answer_to contended died effect.Done = Passed None None died
answer_to contended died (effect.Wakes g since) = Passed (Some (record { g = g; since = since; contended = contended })) None died
answer_to contended died effect.Blocks = Blocked
answer_to contended died effect.Fault = Fault unlock_of_free

-- the answer where a goroutine is to be born
abbrev pub spawn_answer : Settings → Bool → State → Applied
spawn_answer settings died state = if nat_lt (births state) settings.cells then Born (births state) died else Fault no_cell

-- the answer to what an operation comes to
abbrev pub told : Settings → Bool → Outcome → State → Applied
told settings died (Meets unlocks effect left) state = answer_to unlocks died effect
told settings died (Spawns function) state = spawn_answer settings died state
told settings died Stays state = Plain false

-- the answer to an operation of g
unfoldable pub operation_answer : Code → Settings → ℕ → Bool → Instruction → State → Applied
operation_answer code settings g died instruction state = told settings died (outcome_of code g (operation_of instruction) state) state

-- the answer where g passes the point at which it waited
abbrev pub resume_answer : Bool → Goroutine → Applied
resume_answer died g = Passed None (Some (record { delay = block_delay g })) died

-- the answer to an Op of g
abbrev pub op_answer : Code → Settings → ℕ → State → Applied
op_answer code settings g state =
    let died = is_last_point code state g in
    if (goroutine state g).granted
    then resume_answer died (goroutine state g)
    else operation_answer code settings g died (next_instruction code state g) state

-- The answer to an entry.
abbrev pub applied : Code → Settings → State → Entry → Applied
applied code settings state (Run w g n) = Plain (is_over_after code n (goroutine state g))
applied code settings state (Op w g) = op_answer code settings g state
applied code settings state _ = Plain false
