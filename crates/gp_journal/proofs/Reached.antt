-- What is known of the state of a legal journal, for the code that keeps it in place.
use Rattle.std.proofs.Common.{◌≡◌, ◌⊎◌, ℕ, ◌+◌, ◌^◌, ◌<◌, true, false, length, Some, refl, sym, ap, ◌∙◌, subst, inl, inr, arith, if◌then◌else◌, nat_lt, is_none}
use Rattle.std.proofs.lemmas.Bool.{cases_lt, and_parts, ltb-true}
use Rattle.gp_sync.specs.Places.{places_of}
use Rattle.gp_journal.specs.declared.goroutine.Status.{Status}
use Rattle.gp_journal.specs.declared.goroutine.Status.TheVariants.{Runnable, Running}
use Rattle.gp_journal.specs.declared.settings.Settings.{Settings}
use Rattle.gp_journal.specs.Settings.{AreInRange}
use Rattle.gp_journal.specs.State.{Code, State, goroutine, worker, births, is_runnable, is_live, is_idle, first}
use Rattle.gp_journal.specs.Due.{asked}
use Rattle.gp_journal.specs.NumberLaws.{HasComeTo}
use Rattle.gp_journal.specs.RunLaws.{HoldsRunnable}
use Rattle.gp_journal.specs.Reached.{IsReached, Runs}
use Rattle.gp_journal.specs.Standing.{times}
use Rattle.gp_journal.proofs.Whole.{IsWhole, Behind, live_within}
use Rattle.gp_journal.proofs.Parts.{live_status, not_waiting}
use Rattle.gp_journal.proofs.Counting.{next_request}
use Rattle.gp_journal.proofs.Law.{first_whole, all_whole}
use Rattle.gp_journal.proofs.Totals.{Kept, kept_at}
use Rattle.gp_journal.proofs.OnWorkers.{worker_at}
use Rattle.gp_journal.proofs.QueueLaw.{last_held}
use Rattle.gp_journal.proofs.Stamps.{last_come}

module _ (code : Code) (settings : Settings) (s : State) (reached : IsReached code settings s) where
  pub is_whole : IsWhole s
  is_whole = subst IsWhole (sym reached.its_last) (all_whole code settings (first code settings) reached.journal (first_whole code settings) reached.legal)

  pub holds_runnable : HoldsRunnable s
  holds_runnable = subst HoldsRunnable (sym reached.its_last) (last_held code settings reached.journal reached.legal)

  pub has_come : (g : ℕ) → HasComeTo s g
  has_come g = subst (λ t. HasComeTo t g) (sym reached.its_last) (last_come code settings reached.journal g reached.legal)

  pub is_kept : AreInRange settings → Kept settings s
  is_kept range = subst (Kept settings) (sym reached.its_last) (kept_at code settings reached.journal range reached.legal)

  -- the clock is far from its type's end
  pub clock_fits : AreInRange settings → s.clock < 2 ^ 40
  clock_fits range =
      let kept = is_kept range in
      let bound = kept.numbered.bound in
      let few = kept.bounded.few in
      let a = range.entries in
      let b = range.cells in
      let c = range.workers in
      omega arith

  pub absent_unless : (g : ℕ) (status : Status) → (goroutine s g).status ≡ status → is_runnable status ≡ false → times g s.queue ≡ 0
  absent_unless g status e isnt = holds_runnable g ∙ ap (λ t. if is_runnable t then 1 else 0) e ∙ ap (λ b. if b then 1 else 0) isnt

  -- who runs, and where
  pub runs_there : AreInRange settings → (w g : ℕ) → (worker s w).runs ≡ Some g → Runs settings s w g
  runs_there range w g runs =
      let status = is_whole.on_worker w g runs in
      let born = live_within s.goroutines g (live_status (goroutine s g) status refl) in
      record {
        is_worker = worker_at s.workers w g (cases_lt w (length s.workers)) runs;
        is_born = born;
        is_cell = let few = (is_kept range).numbered.born_bound in omega arith;
        status = status;
      }

  pub runner_absent : (w g : ℕ) → (worker s w).runs ≡ Some g → times g s.queue ≡ 0
  runner_absent w g runs = absent_unless g (Running w) (is_whole.on_worker w g runs) refl

  pub runner_waits_nowhere : (w g : ℕ) → (worker s w).runs ≡ Some g → places_of s.channels s.mutexes g ≡ 0
  runner_waits_nowhere w g runs = let none = not_waiting s w g 0 is_whole (is_whole.on_worker w g runs) in omega arith

  -- one that is runnable stands in the queue once
  pub runnable_once : (g : ℕ) → (goroutine s g).status ≡ Runnable → times g s.queue ≡ 1
  runnable_once g e = holds_runnable g ∙ ap (λ t. if is_runnable t then 1 else 0) e

  pub live_born : (g : ℕ) → is_live (goroutine s g) ≡ true → g < births s
  live_born g live = live_within s.goroutines g live

  pub runnable_born : (g : ℕ) → (goroutine s g).status ≡ Runnable → g < births s
  runnable_born g e = live_within s.goroutines g (live_status (goroutine s g) e refl)

  pub born_cell : AreInRange settings → (g : ℕ) → g < births s → g < settings.cells
  born_cell range g born = let few = (is_kept range).numbered.born_bound in omega arith

  -- while none is active all live ones have the last epoch
  pub epochs_below : s.active ≡ 0 → (epoch : ℕ) → epoch ≡ s.last_epoch + 1 → (g : ℕ) → is_live (goroutine s g) ≡ true → (goroutine s g).epoch < epoch
  epochs_below none epoch next g live = below (is_whole.epochs g live)
    where
      below : ((goroutine s g).epoch ≡ s.last_epoch) ⊎ Behind s.active s.last_epoch (goroutine s g) → (goroutine s g).epoch < epoch
      below (inl same) = omega arith
      below (inr behind) = let some = behind.0 in absurd (omega arith)

-- an idle worker is one of them
pub idle_within : (s : State) (w : ℕ) → is_idle s w ≡ true → w < length s.workers
idle_within s w idle = ltb-true w (length s.workers) ((and_parts (nat_lt w (length s.workers)) (is_none (worker s w).runs) idle).0)

-- where one is asked for a request is left
pub some_request : (settings : Settings) (s : State) → asked settings s ≡ true → 0 < length s.requests
some_request settings s e = let one = next_request settings s e in omega arith
