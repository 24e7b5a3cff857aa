-- When a Record may come: the goroutine is live and isn't recorded yet, and the actor is the profiler or an idle worker.
use Rattle.std.proofs.Common.{◌≡◌, ◌≢◌, ◌⊎◌, inl, inr, ℕ, ◌<◌, ◌==◌, true, ◌||◌, List, [], ◌∷◌, ◌++◌, length, Some, None, is_none, if◌then◌else◌, refl, sym, ap, ◌∙◌, arith, length-set}
use Rattle.std.proofs.lemmas.List.{length-replicate}
use Rattle.std.proofs.lemmas.Bool.{or_left, or_right, and_from, eq-eqb, ne_eqb, lt-ltb}
use Rattle.gp_journal.specs.declared.entry.Entry.{Entry}
use Rattle.gp_journal.specs.declared.entry.Entry.TheVariants.{Start, Run, Op, Tick, Park, Open, Refuse, Record, Close}
use Rattle.gp_journal.specs.declared.settings.Settings.{Settings}
use Rattle.gp_journal.specs.Effect.{after}
use Rattle.gp_journal.specs.May.{May, MayRecord}
use Rattle.gp_journal.specs.Run.{AreLegal, IsLegal, after_all, last}
use Rattle.gp_journal.specs.State.{Code, State, goroutine, worker, is_live, is_behind, is_idle, first}
use Rattle.gp_journal.proofs.Lemmas.{IsWhole, Behind, first_whole, all_whole, step_whole, acts_all, active_last, behind_from, after_all-append, opened_last}
use Rattle.gp_tally.specs.declared.row.Row.{Row}
use Rattle.gp_world.specs.Rows.{runs_one, on_of, MayRecordAs}

-- The workers stay as many.
workers_stay : (code : Code) (settings : Settings) (s : State) (entry : Entry) → IsWhole s → May code settings s entry →
    length (after code settings s entry).workers ≡ length s.workers
unfolding after
workers_stay code settings s (Start w g) whole may = length-set s.workers w _
workers_stay code settings s (Run w g n) whole may = length-set s.workers w _
workers_stay code settings s (Op w g) whole may =
    acts_all code settings w g s (λ t. length t.workers ≡ length s.workers) whole (record {
      stays = refl;
      resumed = length-set s.workers w _;
      passed = λ cs ms. length-set s.workers w _;
      woke = λ cs ms h blocked. length-set s.workers w _;
      blocked = λ cs ms. length-set s.workers w _;
      faulted = λ cause cs ms some. length-set s.workers w _;
      bore = λ function room. length-set s.workers w _;
    })
workers_stay code settings s (Tick w g) whole may = length-set s.workers w _
workers_stay code settings s (Park w g) whole may = length-set s.workers w _
workers_stay code settings s (Open epoch room) whole may = refl
workers_stay code settings s (Refuse room n) whole may = refl
workers_stay code settings s (Record actor g) whole may = refl
workers_stay code settings s (Close epoch) whole may = refl

workers_stay_all : (code : Code) (settings : Settings) (s : State) (entries : List Entry) → IsWhole s → AreLegal code settings s entries →
    length (after_all code settings s entries).workers ≡ length s.workers
workers_stay_all code settings s [] whole legal = refl
workers_stay_all code settings s (entry ∷ entries) whole legal =
    workers_stay_all code settings (after code settings s entry) entries (step_whole code settings s entry whole legal.0) legal.1
    ∙ workers_stay code settings s entry whole legal.0

module _ (code : Code) (settings : Settings) (journal : List Entry) (legal : IsLegal code settings journal) where
  abbrev now : State
  now = last code settings journal

  is_whole : IsWhole now
  is_whole = all_whole code settings (first code settings) journal (first_whole code settings) legal

  workers_number : length now.workers ≡ settings.workers
  workers_number =
      workers_stay_all code settings (first code settings) journal (first_whole code settings) legal ∙ length-replicate settings.workers _

  -- a worker that runs nobody by its row is idle
  runs_none : (row : Row) → row.a ≢ runs_one → on_of row ≡ None
  runs_none row none = ap (λ b. if b then Some row.b else None) (ne_eqb row.a runs_one none)

  is_recorder : (actor : ℕ) (row : Row) → MayRecordAs settings.workers actor row →
      (actor < settings.workers → (worker now actor).runs ≡ on_of row) →
      ((actor == settings.workers) || is_idle now actor) ≡ true
  is_recorder actor row (inl profiler) runs = or_left _ _ (eq-eqb actor settings.workers profiler)
  is_recorder actor row (inr worker) runs =
      or_right _ _ (and_from _ _ (lt-ltb actor (length now.workers) (let n = workers_number in let below = worker.0 in omega arith))
      (ap is_none (runs worker.0 ∙ runs_none row worker.1)))

  -- a live goroutine that hasn't the active epoch has an earlier one
  is_unrecorded : (g : ℕ) → is_live (goroutine now g) ≡ true → 0 < now.active → ((goroutine now g).epoch ≡ now.active → ⊥) →
      is_behind now.active (goroutine now g) ≡ true
  is_unrecorded g live some other = behind_from now.active (goroutine now g) live (below (is_whole.epochs g live))
    where
      newest : now.active ≡ now.last_epoch
      newest = active_last now is_whole some

      below : ((goroutine now g).epoch ≡ now.last_epoch) ⊎ Behind now.active now.last_epoch (goroutine now g) →
          (goroutine now g).epoch < now.active
      below (inl same) = absurd (other (same ∙ sym newest))
      below (inr behind) = let e = behind.1 in let n = newest in omega arith

  -- as the world tells them
  pub may_record : (actor g : ℕ) (row : Row) → MayRecordAs settings.workers actor row →
      (actor < settings.workers → (worker now actor).runs ≡ on_of row) → is_live (goroutine now g) ≡ true →
      (active epoch : ℕ) → active ≡ now.active → epoch ≡ (goroutine now g).epoch → (active ≡ 0 → ⊥) → (epoch ≡ active → ⊥) →
      MayRecord settings now actor g
  may_record actor g row recorder runs live active epoch its its_epoch some other =
      let is_some : 0 < now.active = omega arith in
      record {
        is_active = is_some;
        unrecorded = is_unrecorded g live is_some (λ same. other (its_epoch ∙ same ∙ sym its));
        recorder = is_recorder actor row recorder runs;
      }

-- the epoch of a profile that is opened
pub epoch_opened : (code : Code) (settings : Settings) (journal : List Entry) (epoch room : ℕ) →
    (last code settings (journal ++ Open epoch room ∷ [])).last_epoch ≡ epoch
epoch_opened code settings journal epoch room =
    ap (λ s. s.last_epoch) (after_all-append code settings (first code settings) journal (Open epoch room ∷ []))
    ∙ opened_last code settings (last code settings journal) epoch room
