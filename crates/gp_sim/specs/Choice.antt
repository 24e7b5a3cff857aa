-- The choice by numbers: in each turn one of the actors that can act does, and which one is told by the next number.
use Rattle.std.specs.Prelude.{◌+◌, ◌-◌, ◌*◌, ◌%◌, ℕ, zero, suc, Bool, ◌&&◌, ◌||◌, ◌==◌, List, [], ◌∷◌, ◌++◌, length, get_or, map, if◌then◌else◌, nat_lt, nat_le, Option, Some, None}
use Rattle.rand_pcg.specs.Lcg.{Lcg, started, advance, increment_of}
use Rattle.rand_pcg.specs.Pcg.{multiplier_64, output_xsh_rr}
use Rattle.gp_isa.specs.declared.parts.Parts.{Parts}
use Rattle.gp_journal.specs.declared.entry.Entry.{Entry}
use Rattle.gp_journal.specs.declared.entry.Entry.TheVariants.{Start, Open, Refuse, Record, Close}
use Rattle.gp_journal.specs.declared.settings.Settings.{Settings}
use Rattle.gp_journal.specs.State.{Code, State, code_of, goroutine, worker, is_behind, live, running}
use Rattle.gp_journal.specs.Due.{asked, over, due}
use Rattle.gp_journal.specs.Run.{last}
use Rattle.gp_journal.specs.Standing.{first_behind}
use Rattle.gp_journal.specs.Standing.{head_of}
use Rattle.gp_journal.specs.NumberLaws.{most_entries}
use Rattle.gp_ring.specs.Records.{RingRecord}
use Rattle.gp_ring.specs.PlainRing.{PlainRing, closed, looked, acted, records_taken, has_more}
use Rattle.gp_cpu.specs.Samples.{sampled_at}
use Rattle.gp_samples.specs.RunRing.{begun_ring, with_offers, taken_to_end}
use Rattle.gp_sim.specs.declared.numbers.Act.{Act}
use Rattle.gp_sim.specs.declared.numbers.Act.TheVariants.{Make, Read}
use Rattle.gp_sim.specs.declared.numbers.Turn.{Turn}

-- ---- the entries of workers and profiler

-- An idle worker goes on with the head of the queue: it records it where that has still to be done, else it starts it.
abbrev pub goes_on_with : State → ℕ → Option ℕ → Option Entry
goes_on_with state w None = None
goes_on_with state w (Some g) = Some (if is_behind state.active (goroutine state g) then Record w g else Start w g)

-- It does so while no profile is asked for and the run isn't over.
abbrev pub idle_action : Settings → State → ℕ → Option Entry
idle_action settings state w = if asked settings state || over settings state then None else goes_on_with state w (head_of state.queue)

-- A worker that runs g makes the entry that is due.
abbrev pub action_of_worker : Code → Settings → State → ℕ → Option ℕ → Option Entry
action_of_worker code settings state w (Some g) = Some (due code settings state w g)
action_of_worker code settings state w None = idle_action settings state w

abbrev pub worker_action : Code → Settings → State → ℕ → Option Entry
worker_action code settings state w = action_of_worker code settings state w (worker state w).runs

-- While a profile is active the profiler records the first goroutine that has still to be recorded, and closes the
-- profile where there is none.
abbrev pub goes_on : Settings → State → Option ℕ → Entry
goes_on settings state (Some g) = Record settings.workers g
goes_on settings state None = Close state.active

-- It opens a profile that is asked for once nobody runs, and refuses it where more goroutines are live than the room
-- allows.
abbrev pub answers : Settings → State → Entry
answers settings state =
    if nat_le (live state) settings.room then Open (state.last_epoch + 1) settings.room
    else Refuse settings.room (live state)

abbrev pub profiler_action : Settings → State → Option Entry
profiler_action settings state =
    if nat_lt 0 state.active then Some (goes_on settings state (first_behind state.active state.goroutines))
    else if asked settings state && (running state == 0) then Some (answers settings state)
    else None

-- the entries that stand at some places
abbrev pub with_action : Option Entry → List Entry → List Entry
with_action None entries = entries
with_action (Some entry) entries = entry ∷ entries

-- what n workers from w on would do, and then the profiler
abbrev pub actions_from : Code → Settings → State → ℕ → ℕ → List Entry
actions_from code settings state w zero = with_action (profiler_action settings state) []
actions_from code settings state w (suc n) = with_action (worker_action code settings state w) (actions_from code settings state (suc w) n)

-- What the workers and the profiler that can act would do, in their order.
unfoldable pub actions : Code → Settings → State → List Entry
actions code settings state = actions_from code settings state 0 settings.workers

-- ---- the numbers

-- the generator that numbers are taken from behind the picks
abbrev pub seeded : Settings → Lcg
seeded settings = started 64 multiplier_64 settings.seed (increment_of 64 1)

-- The numbers: the picks, and then the generator's words.
unfoldable pub number : Settings → ℕ → ℕ
number settings k =
    if nat_lt k (length settings.picks) then get_or settings.picks k 0
    else output_xsh_rr (advance 64 multiplier_64 (k - length settings.picks) (seeded settings)).state

-- A turn is what is done in it, with how many numbers were taken once it is done.
-- One of some acts: where there is but one, that one, and no number is taken; else the next number modulo how many
-- there are is its place among them.
abbrev pub chosen : Settings → ℕ → List Act → Option Turn
chosen settings taken [] = None
chosen settings taken (only ∷ []) = Some (record { act = only; taken = taken })
chosen settings taken (one ∷ other ∷ more) =
    let among = one ∷ other ∷ more in Some (record { act = get_or among (number settings taken % length among) one; taken = taken + 1 })

-- ---- the turns

-- What a run has so far: its journal, how many numbers were taken, the ring of samples, and what the reader took from it.
pub record SoFar : Type 0 where
  pub journal : List Entry
  pub taken : ℕ
  pub ring : PlainRing
  pub records : List RingRecord

-- as it begins
abbrev pub begun : Parts → Settings → SoFar
begun program settings = record { journal = []; taken = 0; ring = begun_ring program settings; records = [] }

-- What the actors that can act would do, in the order of the actors: the workers and the profiler make entries, and the
-- reader, the last one, reads the ring where there is something to take. The reader doesn't go on alone.
abbrev pub acts_of : List Entry → Bool → List Act
acts_of [] reads = []
acts_of (entry ∷ entries) reads = map Make (entry ∷ entries) ++ (if reads then Read ∷ [] else [])

-- The next turn, where a worker or the profiler can act.
abbrev pub next_turn : Code → Settings → SoFar → Option Turn
next_turn code settings run =
    chosen settings run.taken (acts_of (actions code settings (last code settings run.journal)) (has_more run.ring))

-- With an entry comes what it samples, which is offered to the ring.
abbrev pub with_entry : Code → Settings → SoFar → Entry → SoFar
with_entry code settings run entry =
    record run {
      journal = run.journal ++ entry ∷ [];
      ring = with_offers run.ring (sampled_at code (last code settings run.journal) entry);
    }

-- a read of the ring
abbrev pub with_read : SoFar → SoFar
with_read run = record run { ring = acted (looked run.ring); records = run.records ++ records_taken (looked run.ring) }

abbrev pub after_act : Code → Settings → SoFar → Act → SoFar
after_act code settings run (Make entry) = with_entry code settings run entry
after_act code settings run Read = with_read run

abbrev pub after_turn : Code → Settings → SoFar → Turn → SoFar
after_turn code settings run turn = record (after_act code settings run turn.act) { taken = turn.taken }

-- what there is behind a turn, where there is one
abbrev pub behind_turn : SoFar → Option Turn → (Turn → SoFar) → SoFar
behind_turn run None behind = run
behind_turn run (Some turn) behind = behind turn

-- what a run has after so many turns more, as long as there are turns
abbrev pub after_turns : Code → Settings → ℕ → SoFar → SoFar
after_turns code settings zero run = run
after_turns code settings (suc turns) run =
    behind_turn run (next_turn code settings run) (λ turn. after_turns code settings turns (after_turn code settings run turn))

-- ---- the run

-- The most turns: each makes an entry or takes a record, of which there are no more than offers, and one read more finds
-- the end of the ring.
abbrev pub most_turns : Settings → ℕ
most_turns settings = 2 * most_entries settings + 2

-- What a run has once no worker and no profiler can act.
unfoldable pub sim_run : Parts → Settings → SoFar
sim_run program settings = after_turns (code_of program) settings (most_turns settings) (begun program settings)

-- The journal that the choice gives.
abbrev pub sim_journal : Parts → Settings → List Entry
sim_journal program settings = (sim_run program settings).journal

-- The records that the reader took. At the end the ring is closed, and read until its end is found: by a read of what is
-- unread, one of a pending loss, and one behind these.
abbrev pub sim_records : Parts → Settings → List RingRecord
sim_records program settings = let run = sim_run program settings in run.records ++ taken_to_end 3 (closed run.ring)
