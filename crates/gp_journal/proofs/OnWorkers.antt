-- A goroutine is running on a worker exactly where that worker runs it.
use Rattle.std.proofs.Common.{◌≡◌, ◌⊎◌, ℕ, ◌<◌, ◌≤◌, Bool, true, false, List, [], ◌∷◌, length, get_or, set, take, is_none, Some, None, refl, sym, ap, ◌∙◌, subst, inl, inr, zero, suc, true≢false, if◌then◌else◌, nat_lt}
use Rattle.std.proofs.Common.{get_or-set_same, get_or-set_other}
use Rattle.std.proofs.lemmas.List.{get_or_past}
use Rattle.std.proofs.lemmas.Bool.{cases_lt, and_parts, ltb-true}
use Rattle.gp_journal.specs.declared.entry.Entry.{Entry}
use Rattle.gp_journal.specs.declared.entry.Entry.TheVariants.{Start, Run, Op, Tick, Park, Open, Refuse, Record, Close}
use Rattle.gp_journal.specs.declared.goroutine.Goroutine.{Goroutine}
use Rattle.gp_journal.specs.declared.goroutine.Status.TheVariants.{Runnable, Running, Faulted, Dead}
use Rattle.gp_journal.specs.declared.goroutine.Worker.{Worker}
use Rattle.gp_journal.specs.declared.settings.Settings.{Settings}
use Rattle.gp_journal.specs.State.{Code, State, nobody, resting, goroutine, worker, is_idle, first, main_goroutine}
use Rattle.gp_journal.specs.May.{May}
use Rattle.gp_journal.specs.Effect.{turned, recorded, started, left, ticked, is_over_after, unmarked, blocked_at, woken_at, child_of, with_goroutine, starts, passes, wakes, bears, acts, after}
use Rattle.gp_journal.specs.Run.{AreLegal, after_all}
use Rattle.gp_journal.specs.RunLaws.{StatusesMatchWorkers}
use Rattle.gp_journal.proofs.Places.{changed, pushed, replaced}
use Rattle.gp_journal.proofs.Whole.{IsWhole, some_same, Running-same}
use Rattle.gp_journal.proofs.Parts.{with_wait_lists}
use Rattle.gp_journal.proofs.Acts.{acts_all}
use Rattle.gp_journal.proofs.Steps.{step_whole}
use Rattle.gp_journal.proofs.Law.{first_whole, all_whole, prefix_legal}

-- Where goroutine g is running on a worker, that worker runs it.
abbrev IsOnWorker : List Worker → ℕ → Goroutine → Type 0
IsOnWorker ws g x = (w : ℕ) → x.status ≡ Running w → (get_or ws w resting).runs ≡ Some g

-- So it is with each.
abbrev AreOnWorkers : List Goroutine → List Worker → Type 0
AreOnWorkers gs ws = (g : ℕ) → IsOnWorker ws g (get_or gs g nobody)

abbrev Matches : State → Type 0
Matches s = AreOnWorkers s.goroutines s.workers

-- a worker that runs something is one of the list
pub worker_at : (ws : List Worker) (w g : ℕ) → (w < length ws) ⊎ (length ws ≤ w) → (get_or ws w resting).runs ≡ Some g → w < length ws
worker_at ws w g (inl within) runs = within
worker_at ws w g (inr past) runs = let none : None ≡ Some g = sym (ap (λ (v : Worker). v.runs) (get_or_past ws w resting past)) ∙ runs in absurd (cc)

-- A goroutine turns, and runs nowhere where it didn't.
turns : (gs : List Goroutine) (ws : List Worker) (g : ℕ) (y : Goroutine) → AreOnWorkers gs ws → ((w : ℕ) → y.status ≡ Running w → (get_or gs g nobody).status ≡ Running w) → AreOnWorkers (set gs g y) ws
turns gs ws g y on was = changed (IsOnWorker ws) nobody gs g y (λ w e. on g w (was w e)) on

-- Worker w, which alone runs g, goes on with it, or leaves it as its status turns.
module _ (gs : List Goroutine) (ws : List Worker) (w g : ℕ) (on : AreOnWorkers gs ws) (runs : (get_or ws w resting).runs ≡ Some g) (alone : (k : ℕ) → (get_or ws k resting).runs ≡ Some g → k ≡ w) where
  moves : (y : Goroutine) (v : Worker) → ((k : ℕ) → y.status ≡ Running k → ((get_or gs g nobody).status ≡ Running k) × (v.runs ≡ Some g)) → AreOnWorkers (set gs g y) (set ws w v)
  moves y v keeps = replaced (IsOnWorker (set ws w v)) nobody gs g y
      (λ k e. subst (λ n. (get_or (set ws w v) n resting).runs ≡ Some g) (sym (alone k (on g k ((keeps k e).0))))
      (rw (get_or-set_same ws w v resting (worker_at ws w g (cases_lt w (length ws)) runs)) ((keeps k e).1)))
      (λ k e. absurd (cc))
      (λ h other k e. rw (get_or-set_other ws w k v resting (λ same. other (some_same (sym (subst (λ n. (get_or ws n resting).runs ≡ Some h) same (on h k e)) ∙ runs)))) (on h k e))

passes_on : (code : Code) (settings : Settings) (w g n : ℕ) (s : State) → Matches s → (worker s w).runs ≡ Some g → ((k : ℕ) → (worker s k).runs ≡ Some g → k ≡ w) → Matches (passes code settings w g n s)
passes_on code settings w g n s on runs alone = moves s.goroutines s.workers w g on runs alone _ _ (keeps (is_over_after code n (goroutine s g)))
  where
    keeps : (died : Bool) (k : ℕ) → (if died then Dead else (goroutine s g).status) ≡ Running k → ((goroutine s g).status ≡ Running k) × ((if died then None else (worker s w).runs) ≡ Some g)
    keeps true k e = absurd (cc)
    keeps false k e = (e, runs)

-- no other worker runs the same
only : (s : State) (w g : ℕ) → IsWhole s → (worker s w).runs ≡ Some g → (k : ℕ) → (worker s k).runs ≡ Some g → k ≡ w
only s w g whole runs k e = Running-same (sym (whole.on_worker k g e) ∙ whole.on_worker w g runs)

acts_on : (code : Code) (settings : Settings) (w g : ℕ) (s : State) → IsWhole s → Matches s → (worker s w).runs ≡ Some g → Matches (acts code settings w g s)
acts_on code settings w g s whole on runs =
    let alone = only s w g whole runs in
    acts_all code settings w g s Matches whole (record {
      stays = on;
      resumed = passes_on code settings w g 1 (with_goroutine g (unmarked (goroutine s g)) s) (turns s.goroutines s.workers g (unmarked (goroutine s g)) on (λ k e. e)) runs alone;
      passed = λ cs ms. passes_on code settings w g 1 (with_wait_lists cs ms s) on runs alone;
      woke = λ cs ms h blocked. passes_on code settings w g 1 (wakes h (with_wait_lists cs ms s)) (turns s.goroutines s.workers h (woken_at s.clock (goroutine s h)) on (λ k e. absurd (cc))) runs alone;
      blocked = λ cs ms. moves s.goroutines s.workers w g on runs alone (blocked_at s.clock (goroutine s g)) (left (worker s w)) (λ k e. absurd (cc));
      faulted = λ cause cs ms some. moves s.goroutines s.workers w g on runs alone (turned Faulted (goroutine s g)) (left (worker s w)) (λ k e. absurd (cc));
      bore = λ function room. passes_on code settings w g 1 (bears code function g s) (pushed (IsOnWorker s.workers) nobody s.goroutines (child_of code function g s) (λ k e. absurd (cc)) on) runs alone;
    })

starts_on : (w g : ℕ) (s : State) → Matches s → is_idle s w ≡ true → Matches (starts w g s)
starts_on w g s on idle = replaced (IsOnWorker (set s.workers w v)) nobody s.goroutines g (turned (Running w) (goroutine s g))
    (λ k e. subst (λ n. (get_or (set s.workers w v) n resting).runs ≡ Some g) (Running-same e) (rw (get_or-set_same s.workers w v resting within) refl))
    (λ k e. absurd (cc))
    (λ h other k e. rw (get_or-set_other s.workers w k v resting (λ same. busy h (subst (λ n. (worker s n).runs ≡ Some h) same (on h k e)))) (on h k e))
  where
    v : Worker
    v = started g (worker s w)

    within : w < length s.workers
    within = ltb-true w (length s.workers) ((and_parts (nat_lt w (length s.workers)) (is_none (worker s w).runs) idle).0)

    busy : (h : ℕ) → (worker s w).runs ≡ Some h → ⊥
    busy h e = true≢false (sym ((and_parts (nat_lt w (length s.workers)) (is_none (worker s w).runs) idle).1) ∙ ap is_none e)

ticks_on : (w : ℕ) (s : State) → Matches s → AreOnWorkers s.goroutines (set s.workers w (ticked (worker s w)))
ticks_on w s on g k e = changed (λ n (v : Worker). n ≡ k → v.runs ≡ Some g) resting s.workers w (ticked (worker s w))
    (λ here. subst (λ n. (worker s n).runs ≡ Some g) (sym here) (on g k e)) (λ n here. subst (λ m. (worker s m).runs ≡ Some g) (sym here) (on g k e)) k refl

step_on : (code : Code) (settings : Settings) (s : State) (entry : Entry) → IsWhole s → Matches s → May code settings s entry → Matches (after code settings s entry)
unfolding after
step_on code settings s (Start w g) whole on may = starts_on w g s on may.idle
step_on code settings s (Run w g n) whole on may = passes_on code settings w g n s on may.runs (only s w g whole may.runs)
step_on code settings s (Op w g) whole on may = acts_on code settings w g s whole on may.runs
step_on code settings s (Tick w g) whole on may = ticks_on w s on
step_on code settings s (Park w g) whole on may = moves s.goroutines s.workers w g on may.runs (only s w g whole may.runs) (turned Runnable (goroutine s g)) (left (worker s w)) (λ k e. absurd (cc))
step_on code settings s (Open epoch room) whole on may = on
step_on code settings s (Refuse room n) whole on may = on
step_on code settings s (Record actor g) whole on may = turns s.goroutines s.workers g (recorded s.active (goroutine s g)) on (λ k e. e)
step_on code settings s (Close epoch) whole on may = on

all_on : (code : Code) (settings : Settings) (s : State) (entries : List Entry) → IsWhole s → Matches s → AreLegal code settings s entries → Matches (after_all code settings s entries)
all_on code settings s [] whole on legal = on
all_on code settings s (entry ∷ entries) whole on legal =
    all_on code settings (after code settings s entry) entries (step_whole code settings s entry whole legal.0) (step_on code settings s entry whole on legal.0) legal.1

first_on : (code : Code) (settings : Settings) → Matches (first code settings)
first_on code settings g w e = absurd (none g e)
  where
    none : (g : ℕ) → (get_or (main_goroutine code ∷ []) g nobody).status ≡ Running w → ⊥
    none zero e = absurd (cc)
    none (suc g) e = absurd (cc)

pub statuses_match_workers : StatusesMatchWorkers
statuses_match_workers code settings journal k w g legal =
    let start = first code settings in
    let begun = prefix_legal code settings start k journal legal in (
      (all_whole code settings start (take k journal) (first_whole code settings) begun).on_worker w g,
      all_on code settings start (take k journal) (first_whole code settings) (first_on code settings) begun g w,
    )
