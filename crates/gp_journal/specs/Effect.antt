-- The effect of each entry. What an entry doesn't name stays.
use Rattle.std.specs.Prelude.{◌+◌, ◌%◌, ℕ, Bool, true, false, not, ◌&&◌, ◌||◌, ◌==◌, [], ◌∷◌, ◌++◌, set, drop, if◌then◌else◌, nat_lt, Option, Some, None}
use Rattle.gp_isa.specs.Trace.{Instruction}
use Rattle.gp_stack.specs.declared.statement.Operation.{Operation}
use Rattle.gp_stack.specs.declared.statement.Operation.TheVariants as operation
use Rattle.gp_stack.specs.Goroutine.{is_ended, labels_of}
use Rattle.gp_stack.specs.Peek.{operation_of}
use Rattle.gp_sync.specs.declared.effect.Effect.{Effect}
use Rattle.gp_sync.specs.declared.effect.Effect.TheVariants.{Done, Blocks, Wakes, Fault}
use Rattle.gp_sync.specs.declared.effect.Waiter.{Waiter}
use Rattle.gp_sync.specs.Operations.{Channel, Mutex, send, recv, lock, unlock}
use Rattle.gp_journal.specs.declared.entry.Entry.{Entry}
use Rattle.gp_journal.specs.declared.entry.Entry.TheVariants.{Start, Run, Op, Tick, Park, Open, Refuse, Record, Close}
use Rattle.gp_journal.specs.declared.goroutine.Goroutine.{Goroutine}
use Rattle.gp_journal.specs.declared.goroutine.Status.{Status}
use Rattle.gp_journal.specs.declared.goroutine.Status.TheVariants.{Runnable, Running, Blocked, Faulted, Dead}
use Rattle.gp_journal.specs.declared.goroutine.Worker.{Worker}
use Rattle.gp_journal.specs.declared.settings.Settings.{Settings}
use Rattle.gp_journal.specs.Settings.{period}
use Rattle.gp_journal.specs.State.{Code, State, goroutine, worker, channel, mutex, trace_of, births}
use Rattle.gp_journal.specs.Due.{next_instruction}
use Rattle.gp_journal.specs.Standing.{without}

-- A goroutine with another status.
abbrev pub turned : Status → Goroutine → Goroutine
turned status g = record g { status = status }

-- A goroutine that was recorded in the profile of an epoch.
abbrev pub recorded : ℕ → Goroutine → Goroutine
recorded epoch g = record g { epoch = epoch }

-- whether a goroutine's trace ends with n points more
abbrev pub is_over_after : Code → ℕ → Goroutine → Bool
is_over_after code n g = is_ended (trace_of code g) (g.count + n)

-- A goroutine that has passed n points, and has died where its trace ends.
abbrev pub passed : Code → ℕ → Goroutine → Goroutine
passed code n g = record g { count = g.count + n; status = if is_over_after code n g then Dead else g.status }

-- A goroutine whose granted mark is cleared.
abbrev pub unmarked : Goroutine → Goroutine
unmarked g = record g { granted = false }

-- A goroutine that blocked at a clock.
abbrev pub blocked_at : ℕ → Goroutine → Goroutine
blocked_at clock g = record g { status = Blocked; blocked = clock }

-- A goroutine that was woken at a clock: runnable, with the mark that its waiting point is granted.
abbrev pub woken_at : ℕ → Goroutine → Goroutine
woken_at clock g = record g { status = Runnable; granted = true; woken = clock }

-- A newborn goroutine is runnable, with its creator's labels and the last epoch given.
abbrev pub newborn : ℕ → ℕ → ℕ → Goroutine
newborn function labels epoch =
    record { start = function; set = labels; count = 0; status = Runnable; granted = false; epoch = epoch; blocked = 0; woken = 0 }

-- A worker that begins to run g, with slice count 0.
abbrev pub started : ℕ → Worker → Worker
started g w = record w { runs = Some g; slice = 0 }

-- A worker that has left its goroutine.
abbrev pub left : Worker → Worker
left w = record w { runs = None }

-- A worker whose due tick is cleared.
abbrev pub ticked : Worker → Worker
ticked w = record w { tick = false }

-- A worker that has run n instructions more, its goroutine having died or not. A tick becomes due where its
-- instruction count is brought to a multiple of the period and the goroutine still runs.
abbrev pub worked : Settings → ℕ → Bool → Worker → Worker
worked settings n died w = record w {
  runs = if died then None else w.runs;
  instructions = w.instructions + n;
  slice = w.slice + n;
  tick = w.tick || (not died && ((w.instructions + n) % period settings == 0));
}

-- whether the trace of g ends with its next point
abbrev pub is_last_point : Code → State → ℕ → Bool
is_last_point code state g = is_over_after code 1 (goroutine state g)

-- the state with another goroutine at a number
abbrev pub with_goroutine : ℕ → Goroutine → State → State
with_goroutine g new state = record state { goroutines = set state.goroutines g new }

-- with another worker
abbrev pub with_worker : ℕ → Worker → State → State
with_worker w new state = record state { workers = set state.workers w new }

-- with another channel
abbrev pub with_channel : ℕ → Channel → State → State
with_channel c new state = record state { channels = set state.channels c new }

-- with another mutex
abbrev pub with_mutex : ℕ → Mutex → State → State
with_mutex m new state = record state { mutexes = set state.mutexes m new }

-- g goes to the tail of the queue
abbrev pub queued : ℕ → State → State
queued g state = record state { queue = state.queue ++ g ∷ [] }

-- g leaves the queue
abbrev pub unqueued : ℕ → State → State
unqueued g state = record state { queue = without g state.queue }

-- w begins to run g
abbrev pub starts : ℕ → ℕ → State → State
starts w g state =
    unqueued g
    (with_worker w (started g (worker state w)) (with_goroutine g (turned (Running w) (goroutine state g)) state))

-- g leaves w with another status
abbrev pub leaves : ℕ → ℕ → Goroutine → State → State
leaves w g new state = with_worker w (left (worker state w)) (with_goroutine g new state)

-- g passes n points on w, which count as n instructions
abbrev pub passes : Code → Settings → ℕ → ℕ → ℕ → State → State
passes code settings w g n state =
    let died = is_over_after code n (goroutine state g) in
    let after = with_worker w (worked settings n died (worker state w)) (with_goroutine g (passed code n (goroutine state g)) state) in
    record after { clock = state.clock + n }

-- g leaves w as blocked
abbrev pub blocks : ℕ → ℕ → State → State
blocks w g state = leaves w g (blocked_at state.clock (goroutine state g)) state

-- g leaves w as faulted
abbrev pub faults : ℕ → ℕ → ℕ → State → State
faults cause w g state =
    let after = leaves w g (turned Faulted (goroutine state g)) state in
    record after { fault = cause }

-- g is woken
abbrev pub wakes : ℕ → State → State
wakes g state = queued g (with_goroutine g (woken_at state.clock (goroutine state g)) state)

-- the labels of a goroutine
abbrev pub labels_at : Code → Goroutine → ℕ
labels_at code g = labels_of (trace_of code g) g.set g.count

-- the goroutine that is born of g, to run a function
abbrev pub child_of : Code → ℕ → ℕ → State → Goroutine
child_of code function g state = newborn function (labels_at code (goroutine state g)) state.last_epoch

-- One that is born gets the next number, and goes to the tail of the queue.
abbrev pub born : Goroutine → State → State
born new state =
    let after = queued (births state) state in
    record after { goroutines = state.goroutines ++ new ∷ [] }

abbrev pub bears : Code → ℕ → ℕ → State → State
bears code function g state = born (child_of code function g state) state

-- The causes of faults: an unlock of a free mutex, and a goroutine that is to be born where no cell is left.
abbrev pub unlock_of_free : ℕ
unlock_of_free = 1

abbrev pub no_cell : ℕ
no_cell = 2

-- What an operation's effect does to the state.
unfoldable pub meets : Code → Settings → ℕ → ℕ → Effect → State → State
meets code settings w g Done state = passes code settings w g 1 state
meets code settings w g (Wakes h since) state = passes code settings w g 1 (wakes h state)
meets code settings w g Blocks state = blocks w g state
meets code settings w g Fault state = faults unlock_of_free w g state

-- g as a waiter from now on
abbrev pub waiter : State → ℕ → Waiter
waiter state g = record { g = g; since = state.clock }

-- A goroutine is born where fewer than `cells` were; else this is a fault.
abbrev pub spawns : Code → Settings → ℕ → ℕ → ℕ → State → State
spawns code settings w g function state =
    if nat_lt (births state) settings.cells
    then passes code settings w g 1 (bears code function g state)
    else faults no_cell w g state

-- What an operation comes to.
pub data Outcome : Type 0 where
  -- an effect on the goroutine that makes it, in a state in which its channel or mutex has what the operation leaves
  -- there; `unlocks` tells that a mutex was unlocked
  Meets : (unlocks : Bool) → Effect → State → Outcome
  -- a goroutine to be born
  Spawns : (function : ℕ) → Outcome
  -- nothing, since a local point is no operation
  Stays : Outcome

-- whether an operation unlocks a mutex
abbrev pub unlocks : Operation → Bool
unlocks (operation.Unlock m) = true
unlocks _ = false

-- the function of the goroutine that an operation bears, if it bears one
abbrev pub spawned : Operation → Option ℕ
spawned (operation.Spawn function) = Some function
spawned _ = None

-- an operation on a channel, and one on a mutex, with what they leave
abbrev pub on_channel : State → ℕ → Effect × Channel → Outcome
on_channel state c done = Meets false done.0 (with_channel c done.1 state)

abbrev pub on_mutex : Bool → State → ℕ → Effect × Mutex → Outcome
on_mutex unlocks state m done = Meets unlocks done.0 (with_mutex m done.1 state)

-- An operation of g.
abbrev pub outcome_at : Code → ℕ → Operation → State → Outcome
outcome_at code g (operation.Send c) state = on_channel state c (send (code.capacity c) (channel state c) (waiter state g))
outcome_at code g (operation.Recv c) state = on_channel state c (recv (channel state c) (waiter state g))
outcome_at code g (operation.Lock m) state = on_mutex false state m (lock (mutex state m) (waiter state g))
outcome_at code g (operation.Unlock m) state = on_mutex true state m (unlock (mutex state m))
outcome_at code g (operation.Spawn function) state = Spawns function

-- Where a point is shared its operation is made.
abbrev pub outcome_of : Code → ℕ → Option Operation → State → Outcome
outcome_of code g (Some made) state = outcome_at code g made state
outcome_of code g None state = Stays

-- what comes of it
abbrev pub comes_to : Code → Settings → ℕ → ℕ → Outcome → State → State
comes_to code settings w g (Meets unlocks effect left) state = meets code settings w g effect left
comes_to code settings w g (Spawns function) state = spawns code settings w g function state
comes_to code settings w g Stays state = state

unfoldable pub operates : Code → Settings → ℕ → ℕ → Instruction → State → State
operates code settings w g instruction state = comes_to code settings w g (outcome_of code g (operation_of instruction) state) state

-- A goroutine with the mark loses it and passes its point.
abbrev pub resumes : Code → Settings → ℕ → ℕ → State → State
resumes code settings w g state = passes code settings w g 1 (with_goroutine g (unmarked (goroutine state g)) state)

-- the effect of an Op
abbrev pub acts : Code → Settings → ℕ → ℕ → State → State
acts code settings w g state =
    if (goroutine state g).granted
    then resumes code settings w g state
    else operates code settings w g (next_instruction code state g) state

-- the next request is served
abbrev pub served : State → State
served state = record state { requests = drop 1 state.requests }

-- The effect of an entry, but for the number of entries.
abbrev pub effect : Code → Settings → Entry → State → State
effect code settings (Start w g) state = starts w g state
effect code settings (Run w g n) state = passes code settings w g n state
effect code settings (Op w g) state = acts code settings w g state
effect code settings (Tick w g) state = with_worker w (ticked (worker state w)) state
effect code settings (Park w g) state = queued g (leaves w g (turned Runnable (goroutine state g)) state)
effect code settings (Open epoch room) state =
    let after = served state in
    record after { active = epoch; last_epoch = epoch }
effect code settings (Refuse room n) state = served state
effect code settings (Record actor g) state = with_goroutine g (recorded state.active (goroutine state g)) state
effect code settings (Close epoch) state = record state { active = 0 }

-- The state after an entry.
unfoldable pub after : Code → Settings → State → Entry → State
after code settings state entry =
    let new = effect code settings entry state in
    record new { entries = state.entries + 1 }
