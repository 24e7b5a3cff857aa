-- Laws on what goroutines do in legal journals: on which worker they run, how they are born, wait and end.
use Rattle.std.specs.Prelude.{◌≡◌, ◌⊎◌, ◌↔◌, ◌+◌, ◌≤◌, ◌<◌, ℕ, true, false, if◌then◌else◌, Some, List, [], ◌∷◌, ◌++◌, take, drop}
use Rattle.gp_journal.specs.declared.entry.Entry.{Entry}
use Rattle.gp_journal.specs.declared.entry.Entry.TheVariants.{Refuse}
use Rattle.gp_journal.specs.declared.goroutine.Status.TheVariants.{Runnable, Running, Blocked}
use Rattle.gp_journal.specs.declared.settings.Settings.{Settings}
use Rattle.gp_journal.specs.State.{Code, State, goroutine, worker, is_runnable, is_dead, is_live, births}
use Rattle.gp_journal.specs.Due.{IsComplete}
use Rattle.gp_journal.specs.Effect.{after}
use Rattle.gp_journal.specs.Run.{IsLegal, last, at}
use Rattle.gp_sync.specs.Places.{places_of}
use Rattle.gp_journal.specs.Standing.{times}
use Rattle.gp_journal.specs.Waiting.{WaitListsTell}

-- A legal journal's prefix is legal.
abbrev pub PrefixesAreLegal : Type 0
PrefixesAreLegal = (code : Code) (settings : Settings) (journal : List Entry) (k : ℕ) →
    IsLegal code settings journal → IsLegal code settings (take k journal)

-- With an entry at most one goroutine is born, under the next number, and one that was born keeps its function and
-- the set that it inherited.
pub record Grows (before now : State) : Type 0 where
  pub next_number : (births now ≡ births before) ⊎ (births now ≡ births before + 1)
  pub same_start : (g : ℕ) → g < births before → (goroutine now g).start ≡ (goroutine before g).start
  pub same_set : (g : ℕ) → g < births before → (goroutine now g).set ≡ (goroutine before g).set

-- So goroutines are born in the order of their numbers, entry by entry.
abbrev pub BornInOrder : Type 0
BornInOrder = (code : Code) (settings : Settings) (journal : List Entry) (entry : Entry) →
    IsLegal code settings (journal ++ entry ∷ []) →
    Grows (last code settings journal) (last code settings (journal ++ entry ∷ []))

-- In every state of a legal journal a goroutine is running on a worker exactly where that worker runs it.
abbrev pub StatusesMatchWorkers : Type 0
StatusesMatchWorkers = (code : Code) (settings : Settings) (journal : List Entry) (k w g : ℕ) →
    IsLegal code settings journal →
    let state = at code settings journal k in
    ((worker state w).runs ≡ Some g) ↔ ((goroutine state g).status ≡ Running w)

-- The queue holds the runnable: each of them stands in it once, and nobody else does.
abbrev pub HoldsRunnable : State → Type 0
HoldsRunnable state = (g : ℕ) → times g state.queue ≡ (if is_runnable (goroutine state g).status then 1 else 0)

-- So it is at every step of a legal journal.
abbrev pub QueueHoldsRunnable : Type 0
QueueHoldsRunnable = (code : Code) (settings : Settings) (journal : List Entry) (k : ℕ) →
    IsLegal code settings journal → HoldsRunnable (at code settings journal k)

-- A goroutine stands in at most one wait list, and only while it is blocked.
pub record WaitsOnce (state : State) (g : ℕ) : Type 0 where
  pub once : places_of state.channels state.mutexes g ≤ 1
  pub while_blocked : 1 ≤ places_of state.channels state.mutexes g → (goroutine state g).status ≡ Blocked

-- That holds of each goroutine at every step of a legal journal.
abbrev pub EachWaitsOnce : Type 0
EachWaitsOnce = (code : Code) (settings : Settings) (journal : List Entry) (k g : ℕ) →
    IsLegal code settings journal → WaitsOnce (at code settings journal k) g

-- At every step of a legal journal a place in a wait list tells the clock at which its goroutine blocked.
abbrev pub WaitListsTellClocks : Type 0
WaitListsTellClocks = (code : Code) (settings : Settings) (journal : List Entry) (k : ℕ) → IsLegal code settings journal →
    let state = at code settings journal k in WaitListsTell state.goroutines state.channels state.mutexes

-- A Refuse leaves the state as it was, but for the served request and the number of entries.
abbrev pub RefuseLeavesAll : Type 0
RefuseLeavesAll = (code : Code) (settings : Settings) (state : State) (room n : ℕ) →
    after code settings state (Refuse room n) ≡
    record state { requests = drop 1 state.requests; entries = state.entries + 1 }

-- What is so at the end of a complete run, by how it ended.
pub record EndsOneWay (settings : Settings) (state : State) : Type 0 where
  -- where a fault was made, main isn't dead
  pub by_fault : 1 ≤ state.fault → is_dead (goroutine state 0).status ≡ false
  -- where none was made, main isn't dead and some goroutine is runnable, the journal is full
  pub by_entries : (g : ℕ) → state.fault ≡ 0 → is_dead (goroutine state 0).status ≡ false →
      (goroutine state g).status ≡ Runnable → settings.entries ≤ state.entries
  -- where none was made and none is runnable, every live goroutine is blocked
  pub by_deadlock : state.fault ≡ 0 → ((g : ℕ) → (goroutine state g).status ≡ Runnable → ⊥) → (g : ℕ) →
      is_live (goroutine state g) ≡ true → (goroutine state g).status ≡ Blocked

-- That holds of the last state of a legal journal whose run is complete.
abbrev pub RunsEndOneWay : Type 0
RunsEndOneWay = (code : Code) (settings : Settings) (journal : List Entry) → IsLegal code settings journal →
    IsComplete settings (last code settings journal) → EndsOneWay settings (last code settings journal)
