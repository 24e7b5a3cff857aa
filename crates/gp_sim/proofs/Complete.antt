-- Where no actor can act the run is complete.
use Rattle.std.proofs.Common.{◌≡◌, ◌⊎◌, inl, inr, ◌+◌, ◌<◌, ◌≤◌, ℕ, Bool, true, false, not, ◌&&◌, ◌||◌, ◌==◌, List, [], ◌∷◌, length, get_or, count_by, zero, suc, Option, Some, None, refl, sym, ap, ◌∙◌, subst, arith, if◌then◌else◌, nat_lt, true≢false}
use Rattle.std.proofs.Math.Seq.{take-length}
use Rattle.std.specs.List.{list_any}
use Rattle.std.proofs.lemmas.Bool.{cases_lt, cases_Bool, and_cases, or_from, or_right, not_from_false, ltb-false, eqb-false}
use Rattle.gp_journal.specs.declared.entry.Entry.{Entry}
use Rattle.gp_journal.specs.declared.goroutine.Goroutine.{Goroutine}
use Rattle.gp_journal.specs.declared.goroutine.Status.{Status}
use Rattle.gp_journal.specs.declared.goroutine.Status.TheVariants.{Runnable, Running, Blocked, Faulted, Dead}
use Rattle.gp_journal.specs.declared.settings.Request.{Request}
use Rattle.gp_journal.specs.declared.settings.Settings.{Settings}
use Rattle.gp_journal.specs.Settings.{AreInRange}
use Rattle.gp_journal.specs.State.{Code, State, nobody, goroutine, worker, is_runnable, is_running, is_dead, running}
use Rattle.gp_journal.specs.Due.{asked, over, is_ready, some_ready, is_full, has_come, calls_for, IsComplete}
use Rattle.gp_journal.specs.Run.{last, at}
use Rattle.gp_machine.specs.kept.Crowd.{one_if}
use Rattle.gp_journal.specs.Reached.{IsReached}
use Rattle.gp_journal.specs.Standing.{head_of, first_behind}
use Rattle.gp_journal.proofs.Lemmas.{statuses_match_workers, is_kept, holds_runnable, runs_there}
use Rattle.gp_sim.specs.Choice.{goes_on_with, idle_action, action_of_worker, worker_action, goes_on, answers, profiler_action, with_action, actions_from, actions, acts_of, chosen}
use Rattle.gp_sim.proofs.Enabled.{count_none, none_chosen, none_made}

-- no action is one of none
nothing_of : (action : Option Entry) (entries : List Entry) → with_action action entries ≡ [] → (action ≡ None) × (entries ≡ [])
nothing_of None entries e = (refl, e)
nothing_of (Some entry) entries e = absurd (cc)

nobody_heads : (queue : List ℕ) → head_of queue ≡ None → queue ≡ []
nobody_heads [] e = refl
nobody_heads (g ∷ rest) e = absurd (cc)

isnt_runnable : (status : Status) → one_if (is_runnable status) ≡ 0 → is_runnable status ≡ false
isnt_runnable Runnable e = absurd (omega arith)
isnt_runnable (Running w) e = refl
isnt_runnable Blocked e = refl
isnt_runnable Faulted e = refl
isnt_runnable Dead e = refl

-- where no place passes a test, none is found
none_passes : {X : Type 0} (p : X → Bool) (d : X) (xs : List X) → ((k : ℕ) → p (get_or xs k d) ≡ false) → list_any p xs ≡ false
none_passes p d [] fails = refl
none_passes p d (x ∷ xs) fails = or_from (p x) (list_any p xs) (fails 0) (none_passes p d xs (λ k. fails (suc k)))

module _ (code : Code) (settings : Settings) (s : State) where
  -- n workers from w on do nothing, and nor does the profiler
  record NoneActs (w n : ℕ) : Type 0 where
    workers : (k : ℕ) → w ≤ k → k < w + n → worker_action code settings s k ≡ None
    profiler : profiler_action settings s ≡ None

  none_acts : (w n : ℕ) → actions_from code settings s w n ≡ [] → NoneActs w n
  none_acts w zero e = record {
    workers = λ k low high. absurd (omega arith);
    profiler = (nothing_of (profiler_action settings s) [] e).0;
  }
  none_acts w (suc n) e =
      let parts = nothing_of (worker_action code settings s w) (actions_from code settings s (suc w) n) e in
      let rest = none_acts (suc w) n parts.1 in
      record {
        workers = λ k low high. by k low high parts.0 rest (cases_lt w k);
        profiler = rest.profiler;
      }
    where
      by : (k : ℕ) → w ≤ k → k < w + suc n → worker_action code settings s w ≡ None → NoneActs (suc w) n → (w < k) ⊎ (k ≤ w) → worker_action code settings s k ≡ None
      by k low high here rest (inl later) = rest.workers k (omega arith) (omega arith)
      by k low high here rest (inr same) = subst (λ n. worker_action code settings s n ≡ None) (let e : w ≡ k = omega arith in e) here

  -- Each worker does nothing, and nor does the profiler.
  all_rest : actions code settings s ≡ [] → NoneActs 0 settings.workers
  unfolding actions
  all_rest e = none_acts 0 settings.workers e

  -- the profiler, which does nothing
  profiler_rests : profiler_action settings s ≡ None → (nat_lt 0 s.active ≡ false) × ((asked settings s && (running s == 0)) ≡ false)
  profiler_rests = by (nat_lt 0 s.active) (asked settings s && (running s == 0))
    where
      by : (active answered : Bool) → (if active then Some (goes_on settings s (first_behind s.active s.goroutines)) else if answered then Some (answers settings s) else None) ≡ None → (active ≡ false) × (answered ≡ false)
      by true answered e = absurd (cc)
      by false true e = absurd (cc)
      by false false e = (refl, refl)

  -- a worker that does nothing
  worker_rests : (w g : ℕ) → worker_action code settings s w ≡ None → (worker s w).runs ≡ Some g → ⊥
  worker_rests w g none runs =
      let some : action_of_worker code settings s w (Some g) ≡ None = subst (λ runs. action_of_worker code settings s w runs ≡ None) runs none in absurd (cc)

  -- and could begin something finds nothing to begin
  none_waits : (w : ℕ) → worker_action code settings s w ≡ None → asked settings s ≡ false → over settings s ≡ false → head_of s.queue ≡ None
  none_waits w none none_asked not_over =
      unstopped (asked settings s || over settings s) (head_of s.queue) (or_from (asked settings s) (over settings s) none_asked not_over) (idle (worker s w).runs none)
    where
      idle : (runs : Option ℕ) → action_of_worker code settings s w runs ≡ None → idle_action settings s w ≡ None
      idle (Some g) e = absurd (cc)
      idle None e = e

      unstopped : (stop : Bool) (head : Option ℕ) → stop ≡ false → (if stop then None else goes_on_with s w head) ≡ None → head ≡ None
      unstopped true head go e = absurd (true≢false go)
      unstopped false None go e = refl
      unstopped false (Some g) go e = absurd (cc)

  none_called : over settings s ≡ true → (requests : List Request) → calls_for settings s requests ≡ false → requests ≡ []
  none_called is_over [] e = refl
  none_called is_over (next ∷ later) e = absurd (true≢false (sym (or_right (has_come s.clock next) (over settings s) is_over) ∙ e))

  -- where none is asked for though none is active, none is called for
  none_calls : asked settings s ≡ false → s.active ≡ 0 → calls_for settings s s.requests ≡ false
  unfolding asked
  none_calls none_asked none = which (and_cases (s.active == 0) (calls_for settings s s.requests) none_asked)
    where
      which : ((s.active == 0) ≡ false) ⊎ (calls_for settings s s.requests ≡ false) → calls_for settings s s.requests ≡ false
      which (inl some) = absurd (eqb-false s.active 0 some none)
      which (inr e) = e

  -- a run is over where none is ready
  over_unready : some_ready s ≡ false → over settings s ≡ true
  unfolding over
  over_unready none = or_right (is_dead (goroutine s 0).status || not (s.fault == 0) || is_full settings s) (not (some_ready s)) (not_from_false (some_ready s) none)

  module _ (reached : IsReached code settings s) where
    on_its_worker : (w g : ℕ) → (goroutine s g).status ≡ Running w → (worker s w).runs ≡ Some g
    on_its_worker w g = subst (λ (t : State). (goroutine t g).status ≡ Running w → (worker t w).runs ≡ Some g) (sym here)
        ((statuses_match_workers code settings reached.journal (length reached.journal) w g reached.legal).1)
      where
        here : s ≡ at code settings reached.journal (length reached.journal)
        here = reached.its_last ∙ ap (last code settings) (sym (take-length reached.journal))

    module _ (range : AreInRange settings) (rests : NoneActs 0 settings.workers) where
      -- nobody runs
      none_runs : (g : ℕ) → is_running (goroutine s g).status ≡ false
      none_runs g = by (goroutine s g).status refl
        where
          by : (status : Status) → (goroutine s g).status ≡ status → is_running status ≡ false
          by (Running w) e =
              let runs = on_its_worker w g e in
              let there = (runs_there code settings s reached range w g runs).is_worker in
              let many = (is_kept code settings s reached range).numbered.number in
              absurd (worker_rests w g (rests.workers w (omega arith) (omega arith)) runs)
          by Runnable e = refl
          by Blocked e = refl
          by Faulted e = refl
          by Dead e = refl

      nobody_runs : running s ≡ 0
      nobody_runs = count_none (λ (g : Goroutine). is_running g.status) nobody s.goroutines (λ k within. none_runs k)

      none_active : s.active ≡ 0
      none_active = let e = ltb-false 0 s.active (profiler_rests rests.profiler).0 in omega arith

      none_asked : asked settings s ≡ false
      none_asked = which (and_cases (asked settings s) (running s == 0) (profiler_rests rests.profiler).1)
        where
          which : (asked settings s ≡ false) ⊎ ((running s == 0) ≡ false) → asked settings s ≡ false
          which (inl e) = e
          which (inr some) = absurd (eqb-false (running s) 0 some nobody_runs)

      -- where the queue is empty nobody is ready
      none_ready : s.queue ≡ [] → some_ready s ≡ false
      none_ready empty = none_passes is_ready nobody s.goroutines (λ g. or_from (is_runnable (goroutine s g).status) (is_running (goroutine s g).status)
          (isnt_runnable (goroutine s g).status (sym (holds_runnable code settings s reached g) ∙ ap (count_by (λ other. other == g)) empty)) (none_runs g))

      is_over : over settings s ≡ true
      is_over = by (cases_Bool (over settings s))
        where
          by : (over settings s ≡ true) ⊎ (over settings s ≡ false) → over settings s ≡ true
          by (inl e) = e
          by (inr e) =
              let some = range.some_worker in
              over_unready (none_ready (nobody_heads s.queue (none_waits 0 (rests.workers 0 (omega arith) (omega arith)) none_asked e)))

      complete : IsComplete settings s
      complete = record {
        is_over = is_over;
        nobody_runs = nobody_runs;
        none_active = none_active;
        none_left = none_called is_over s.requests (none_calls none_asked none_active);
      }

    -- Where there is no action the run is complete.
    pub none_enabled : AreInRange settings → actions code settings s ≡ [] → IsComplete settings s
    none_enabled range e = complete range (all_rest e)

    -- and so it is where none is chosen
    pub none_turns : AreInRange settings → (reads : Bool) (taken : ℕ) → chosen settings taken (acts_of (actions code settings s) reads) ≡ None → IsComplete settings s
    none_turns range reads taken e = none_enabled range (none_made (actions code settings s) reads (none_chosen settings taken (acts_of (actions code settings s) reads) e))
