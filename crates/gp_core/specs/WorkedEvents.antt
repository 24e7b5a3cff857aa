-- Lists of events of two small programs, worked out by hand.
use Rattle.std.specs.Prelude.{◌≡◌, ℕ, List, [], ◌∷◌, ◌++◌, take}
use Rattle.gp_stack.specs.declared.record.Record.{Record as Row}
use Rattle.gp_journal.specs.declared.entry.Entry.{Entry}
use Rattle.gp_journal.specs.declared.entry.Entry.TheVariants as entry
use Rattle.gp_journal.specs.declared.settings.Settings.{Settings}
use Rattle.gp_journal.specs.State.{Code}
use Rattle.gp_journal.specs.Worked.{wake_settings, pair_settings}
use Rattle.gp_core.specs.declared.word.Word.TheVariants.{Home, Running}
use Rattle.gp_core.specs.declared.event.CoreEvent.{CoreEvent}
use Rattle.gp_core.specs.declared.event.CoreEvent.TheVariants.{Claim, Copy, Satisfy, Take, Begin, Commit, Give, Bear, Bury, OpenAll, CloseAll}
use Rattle.gp_core.specs.CoreState.{CoreState, word}
use Rattle.gp_core.specs.Events.{IsAllowed, core_after}

-- A list of events that the protocol allows, and not any more with one event put at its end.
pub record StopsAt (code : Code) (settings : Settings) (events : List CoreEvent) (next : CoreEvent) : Type 0 where
  pub allowed : IsAllowed code settings events
  pub refused : IsAllowed code settings (events ++ next ∷ []) → ⊥

-- `wake` of `gp_journal`: main spawns goroutine 1, which waits at its `recv`, works, and comes to its `send` as a profile is
-- asked for. Then both bodies are at home.
abbrev pub wake_home : List CoreEvent
wake_home =
    Bear 0 0 ∷ Take 0 0 ∷ Begin 0 0 ∷ Commit 0 0 ∷ Commit 0 0 ∷ Commit 0 0 ∷ Give 0 0 ∷
    Bear 0 1 ∷ Take 0 1 ∷ Begin 0 1 ∷ Commit 0 1 ∷ Give 0 1 ∷
    Take 0 0 ∷ Begin 0 0 ∷ Commit 0 0 ∷ Commit 0 0 ∷ Give 0 0 ∷ []

-- The profile: goroutine 1 is woken between its copy and its Record, and the copy still shows line 9.
abbrev pub wake_profile : List CoreEvent
wake_profile =
    OpenAll ∷ Claim 1 1 ∷ Copy 1 1 ∷ Take 0 0 ∷ Copy 0 0 ∷ Begin 0 0 ∷ Commit 0 0 ∷ Commit 1 1 ∷ Satisfy 1 1 ∷ CloseAll ∷ []

abbrev pub wake_entries : List Entry
wake_entries =
    entry.Start 0 0 ∷ entry.Op 0 0 ∷ entry.Run 0 0 999 ∷ entry.Park 0 0 ∷ entry.Start 0 1 ∷ entry.Op 0 1 ∷
    entry.Start 0 0 ∷ entry.Run 0 0 1 ∷ entry.Park 0 0 ∷
    entry.Open 1 1024 ∷ entry.Record 0 0 ∷ entry.Start 0 0 ∷ entry.Op 0 0 ∷ entry.Record 1 1 ∷ entry.Close 1 ∷ []

abbrev row_at : ℕ → ℕ → ℕ → Row
row_at g function line = record { g = g; stack = record { function = function; line = line } ∷ []; set = 0 }

-- what a core is after all of them
pub record IsWoken (core : CoreState) : Type 0 where
  pub journal : core.journal ≡ wake_entries
  pub copies : core.copies ≡ (1, row_at 0 0 5) ∷ (1, row_at 1 1 9) ∷ []
  pub main_runs : word core 0 ≡ Running 0 0
  pub other_home : word core 1 ≡ Home 1

pub record WokenCore (code : Code) : Type 0 where
  pub allowed : IsAllowed code wake_settings (wake_home ++ wake_profile)
  pub after : IsWoken (core_after code wake_settings (wake_home ++ wake_profile))

-- `pair` of `gp_journal`: main spawns goroutine 1 as a profile is asked for.
abbrev pub pair_home : List CoreEvent
pair_home = Bear 0 0 ∷ Take 0 0 ∷ Begin 0 0 ∷ Commit 0 0 ∷ Commit 0 0 ∷ Give 0 0 ∷ Bear 0 1 ∷ []

abbrev pub pair_open : List CoreEvent
pair_open = pair_home ++ OpenAll ∷ []

abbrev pub pair_claimed : List CoreEvent
pair_claimed = pair_home ++ OpenAll ∷ Claim 1 1 ∷ []

-- lists that stop being allowed with one more event
pub record RefusedEvents (code : Code) : Type 0 where
  -- what is claimed isn't claimed again, nor taken
  pub second_claim : StopsAt code (pair_settings 2) pair_claimed (Claim 0 1)
  pub take_of_claimed : StopsAt code (pair_settings 2) pair_claimed (Take 0 1)
  -- no Record without a copy, by a begin or by a claim
  pub begin_without_copy : StopsAt code (pair_settings 2) (pair_open ++ Take 0 0 ∷ []) (Begin 0 0)
  pub commit_without_copy : StopsAt code (pair_settings 2) pair_claimed (Commit 1 1)
  -- no satisfy before the Record, and no claim of what is satisfied
  pub satisfy_before_record : StopsAt code (pair_settings 2) (pair_claimed ++ Copy 1 1 ∷ []) (Satisfy 1 1)
  pub claim_of_satisfied : StopsAt code (pair_settings 2) (pair_claimed ++ Copy 1 1 ∷ Commit 1 1 ∷ Satisfy 1 1 ∷ []) (Claim 1 1)
  -- no claim without a profile, no close before all are recorded, no open while somebody runs
  pub claim_without_profile : StopsAt code (pair_settings 2) pair_home (Claim 1 1)
  pub close_too_early : StopsAt code (pair_settings 2) pair_open CloseAll
  pub open_while_running : StopsAt code (pair_settings 2) (take 4 pair_home) OpenAll
  -- who runs is neither given back nor copied, and who lives isn't buried
  pub give_of_running : StopsAt code (pair_settings 2) (take 3 pair_home) (Give 0 0)
  pub copy_of_running : StopsAt code (pair_settings 2) (take 3 pair_home) (Copy 0 0)
  pub bury_of_living : StopsAt code (pair_settings 2) (take 2 pair_home) (Bury 0 0)
  -- no body is put into its cell twice, nor before its goroutine is born; the profiler runs nobody
  pub second_bear : StopsAt code (pair_settings 2) (take 1 pair_home) (Bear 0 0)
  pub bear_of_unborn : StopsAt code (pair_settings 2) [] (Bear 0 1)
  pub take_by_profiler : StopsAt code (pair_settings 2) (take 1 pair_home) (Take 1 0)
