-- What is told after each entry of a journal.
use Rattle.std.specs.Prelude.{ℕ, ◌+◌, Bool, true, false, List, [], ◌∷◌, map, Some, None}
use Rattle.std.specs.List.{range_with_len}
use Rattle.gp_journal.specs.declared.answer.Applied.{Applied}
use Rattle.gp_journal.specs.declared.answer.Applied.TheVariants.{Plain, Passed, Born}
use Rattle.gp_journal.specs.declared.entry.Entry.{Entry}
use Rattle.gp_journal.specs.declared.goroutine.Worker.{Worker}
use Rattle.gp_journal.specs.declared.settings.Settings.{Settings}
use Rattle.gp_journal.specs.State.{Code, State, births, live, running}
use Rattle.gp_journal.specs.Effect.{after}
use Rattle.gp_journal.specs.Answer.{applied}
use Rattle.gp_journal.specs.Actors.{made_by}

-- the answer to an entry, and after it the clock, how many goroutines were born, are live and run, and the active and
-- the last epoch
pub record Told : Type 0 where
  pub answer : Applied
  pub clock : ℕ
  pub born : ℕ
  pub live : ℕ
  pub running : ℕ
  pub active : ℕ
  pub last_epoch : ℕ

abbrev pub says : Applied → ℕ → ℕ → ℕ → ℕ → ℕ → ℕ → Told
says answer clock born live running active last_epoch = record {
  answer = answer;
  clock = clock;
  born = born;
  live = live;
  running = running;
  active = active;
  last_epoch = last_epoch;
}

-- what is told where an answer was given and a state is the one after the entry
abbrev pub told_then : Applied → State → Told
told_then answer now = says answer now.clock (births now) (live now) (running now) now.active now.last_epoch

-- what is told after each of the entries, from a state on
abbrev pub told_from : Code → Settings → State → List Entry → List Told
told_from code settings state [] = []
told_from code settings state (entry ∷ entries) =
    told_then (applied code settings state entry) (after code settings state entry)
    ∷ told_from code settings (after code settings state entry) entries

-- by worker: how many instructions it has run
abbrev pub done_of : State → List ℕ
done_of state = map (λ (w : Worker). w.instructions) state.workers

-- by actor: how many entries it made
abbrev pub made_of : Settings → List Entry → List ℕ
made_of settings journal = map (λ actor. made_by settings actor journal) (range_with_len 0 (settings.workers + 1))

-- Short names of answers: to an entry that tells nothing, and where its goroutine's trace is over then; to an Op that
-- passed its point, and where the trace is over then; that bore a goroutine, woke one, or ended a wait.
abbrev pub nothing : Applied
nothing = Plain false

abbrev pub over_now : Applied
over_now = Plain true

abbrev pub passed_it : Applied
passed_it = Passed None None false

abbrev pub passed_last : Applied
passed_last = Passed None None true

abbrev pub bore : ℕ → Applied
bore g = Born g false

abbrev pub woke : ℕ → ℕ → Bool → Bool → Applied
woke g since contended died = Passed (Some (record { g = g; since = since; contended = contended })) None died

abbrev pub waited : ℕ → Applied
waited delay = Passed None (Some (record { delay = delay })) false
