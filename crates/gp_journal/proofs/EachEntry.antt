-- The laws on single entries.
use Rattle.std.proofs.Common.{◌≡◌, ℕ, ◌+◌, ◌<◌, Bool, true, false, not, ◌||◌, ◌==◌, List, [], ◌∷◌, ◌++◌, get_or, set, length, Some, refl, sym, ap, ◌∙◌, subst, arith, zero, suc, true≢false}
use Rattle.std.specs.List.{list_any}
use Rattle.std.proofs.lemmas.Bool.{or_parts, or_from, leb-false, lt-leb}
use Rattle.gp_journal.specs.declared.goroutine.Status.TheVariants.{Runnable}
use Rattle.std.proofs.lemmas.List.{append-nil, get_or-set_other}
use Rattle.gp_journal.specs.declared.entry.Entry.{Entry}
use Rattle.gp_journal.specs.declared.entry.Entry.TheVariants.{Start, Run, Op, Tick, Park, Open, Refuse, Record, Close}
use Rattle.gp_journal.specs.declared.goroutine.Goroutine.{Goroutine}
use Rattle.gp_journal.specs.declared.settings.Settings.{Settings}
use Rattle.gp_journal.specs.State.{Code, State, nobody, resting, goroutine, worker, is_runnable, is_running, is_dead, first}
use Rattle.gp_journal.specs.Due.{asked, over, is_full, is_ready, some_ready, IsComplete}
use Rattle.gp_journal.specs.May.{May}
use Rattle.gp_journal.specs.Effect.{turned, recorded, after}
use Rattle.gp_journal.specs.Answer.{applied}
use Rattle.gp_journal.specs.Run.{last}
use Rattle.gp_journal.specs.Actors.{actor_of}
use Rattle.gp_journal.specs.StepLaws.{OfEachEntry, OthersStay, LeavesEpochs, SameEpochs, EpochsStay, remaining, joining, QueueAfter, OverStays, NothingAfterComplete}
use Rattle.gp_journal.proofs.Places.{changed, none_counted}
use Rattle.gp_journal.proofs.Whole.{IsWhole}
use Rattle.gp_journal.proofs.Acts.{acts_all, acts_told}
use Rattle.gp_journal.proofs.Going.{op_goes, run_goes}
use Rattle.gp_journal.proofs.Law.{first_whole, all_whole, front_legal, rest_legal, after_all-append}
use Rattle.gp_journal.proofs.Reached.{some_request}

-- what holds of every whole state and a legal entry holds of each entry of a legal journal
of_each : (P : Code → Settings → State → Entry → State → Type 0) →
    ((code : Code) (settings : Settings) (s : State) (entry : Entry) → IsWhole s → May code settings s entry → P code settings s entry (after code settings s entry)) → OfEachEntry P
of_each P step code settings journal entry legal =
    let from = first code settings in
    let s = last code settings journal in
    let whole = all_whole code settings from journal (first_whole code settings) (front_legal code settings from journal (entry ∷ []) legal) in
    let may = (rest_legal code settings from journal (entry ∷ []) legal).0 in
    subst (P code settings s entry) (sym (after_all-append code settings from journal (entry ∷ []))) (step code settings s entry whole may)

pub step_others : (code : Code) (settings : Settings) (s : State) (entry : Entry) → IsWhole s → (v : ℕ) → (v ≡ actor_of settings.workers entry → ⊥) →
    worker (after code settings s entry) v ≡ worker s v
unfolding after
step_others code settings s (Start w g) whole v other = get_or-set_other s.workers w v _ resting other
step_others code settings s (Run w g n) whole v other = get_or-set_other s.workers w v _ resting other
step_others code settings s (Op w g) whole v other =
    acts_all code settings w g s (λ t. worker t v ≡ worker s v) whole (record {
      stays = refl;
      resumed = get_or-set_other s.workers w v _ resting other;
      passed = λ cs ms. get_or-set_other s.workers w v _ resting other;
      woke = λ cs ms h blocked. get_or-set_other s.workers w v _ resting other;
      blocked = λ cs ms. get_or-set_other s.workers w v _ resting other;
      faulted = λ cause cs ms some. get_or-set_other s.workers w v _ resting other;
      bore = λ function room. get_or-set_other s.workers w v _ resting other;
    })
step_others code settings s (Tick w g) whole v other = get_or-set_other s.workers w v _ resting other
step_others code settings s (Park w g) whole v other = get_or-set_other s.workers w v _ resting other
step_others code settings s (Open epoch room) whole v other = refl
step_others code settings s (Refuse room n) whole v other = refl
step_others code settings s (Record actor g) whole v other = refl
step_others code settings s (Close epoch) whole v other = refl

pub others_stay : OthersStay
others_stay = of_each (λ code settings before entry now. (w : ℕ) → (w ≡ actor_of settings.workers entry → ⊥) → worker now w ≡ worker before w)
    (λ code settings s entry whole may v other. step_others code settings s entry whole v other)

same_epochs : (s : State) → SameEpochs s s
same_epochs s = record { active = refl; last_epoch = refl }

pub step_epochs : (code : Code) (settings : Settings) (s : State) (entry : Entry) → IsWhole s → LeavesEpochs entry → SameEpochs s (after code settings s entry)
unfolding after
step_epochs code settings s (Start w g) whole quiet = record { active = refl; last_epoch = refl }
step_epochs code settings s (Run w g n) whole quiet = record { active = refl; last_epoch = refl }
step_epochs code settings s (Op w g) whole quiet =
    let acted = acts_all code settings w g s (SameEpochs s) whole (record {
      stays = same_epochs s;
      resumed = record { active = refl; last_epoch = refl };
      passed = λ cs ms. record { active = refl; last_epoch = refl };
      woke = λ cs ms h blocked. record { active = refl; last_epoch = refl };
      blocked = λ cs ms. record { active = refl; last_epoch = refl };
      faulted = λ cause cs ms some. record { active = refl; last_epoch = refl };
      bore = λ function room. record { active = refl; last_epoch = refl };
    }) in record { active = acted.active; last_epoch = acted.last_epoch }
step_epochs code settings s (Tick w g) whole quiet = record { active = refl; last_epoch = refl }
step_epochs code settings s (Park w g) whole quiet = record { active = refl; last_epoch = refl }
step_epochs code settings s (Open epoch room) whole quiet = absurd quiet
step_epochs code settings s (Refuse room n) whole quiet = record { active = refl; last_epoch = refl }
step_epochs code settings s (Record actor g) whole quiet = record { active = refl; last_epoch = refl }
step_epochs code settings s (Close epoch) whole quiet = absurd quiet

pub epochs_stay : EpochsStay
epochs_stay = of_each (λ code settings before entry now. LeavesEpochs entry → SameEpochs before now)
    (λ code settings s entry whole may quiet. step_epochs code settings s entry whole quiet)

nobody_joins : (queue : List ℕ) → queue ≡ queue ++ []
nobody_joins queue = sym (append-nil queue)

pub step_queue : (code : Code) (settings : Settings) (s : State) (entry : Entry) → IsWhole s →
    (after code settings s entry).queue ≡ remaining entry s.queue ++ joining entry (applied code settings s entry)
unfolding after
step_queue code settings s (Start w g) whole = nobody_joins _
step_queue code settings s (Run w g n) whole = nobody_joins _
step_queue code settings s (Op w g) whole =
    acts_told code settings w g s (λ t answer. t.queue ≡ s.queue ++ joining (Op w g) answer) whole (record {
      stays = nobody_joins _;
      resumed = nobody_joins _;
      passed = λ cs ms. nobody_joins _;
      woke = λ cs ms h since contended blocked. refl;
      blocked = λ cs ms. nobody_joins _;
      faulted = λ cause cs ms some. nobody_joins _;
      bore = λ function room. refl;
    })
step_queue code settings s (Tick w g) whole = nobody_joins _
step_queue code settings s (Park w g) whole = refl
step_queue code settings s (Open epoch room) whole = nobody_joins _
step_queue code settings s (Refuse room n) whole = nobody_joins _
step_queue code settings s (Record actor g) whole = nobody_joins _
step_queue code settings s (Close epoch) whole = nobody_joins _

pub queue_after : QueueAfter
queue_after = of_each (λ code settings before entry now. now.queue ≡ remaining entry before.queue ++ joining entry (applied code settings before entry))
    (λ code settings s entry whole may. step_queue code settings s entry whole)

-- What is told of a state by whether a run is over there.
record Likewise (s t : State) : Type 0 where
  main : is_dead (goroutine t 0).status ≡ is_dead (goroutine s 0).status
  fault : t.fault ≡ s.fault
  entries : t.entries ≡ s.entries + 1
  ready : some_ready t ≡ some_ready s

not_over_before : (settings : Settings) (s t : State) → Likewise s t → over settings t ≡ false → over settings s ≡ false
unfolding over
not_over_before settings s t like e =
    let a = or_parts (is_dead (goroutine t 0).status || not (t.fault == 0) || is_full settings t) (not (some_ready t)) e in
    let b = or_parts (is_dead (goroutine t 0).status || not (t.fault == 0)) (is_full settings t) a.0 in
    let c = or_parts (is_dead (goroutine t 0).status) (not (t.fault == 0)) b.0 in
    let main = sym like.main ∙ c.0 in
    let fault = ap (λ n. not (n == 0)) (sym like.fault) ∙ c.1 in
    let more = leb-false settings.entries t.entries b.1 in
    let count = like.entries in
    let full = lt-leb settings.entries s.entries (omega arith) in
    let ready = ap not (sym like.ready) ∙ a.1 in
    or_from _ _ (or_from _ _ (or_from _ _ main fault) full) ready

over_too : (settings : Settings) (s t : State) → Likewise s t → over settings s ≡ true → over settings t ≡ true
over_too settings s t like e = by (over settings t) refl
  where
    by : (b : Bool) → over settings t ≡ b → over settings t ≡ true
    by true is = is
    by false isnt = absurd (true≢false (sym e ∙ not_over_before settings s t like isnt))

-- a test of a list after one place is changed to one that passes it likewise
any_set : (p : Goroutine → Bool) (gs : List Goroutine) (g : ℕ) (y : Goroutine) → p y ≡ p (get_or gs g nobody) → list_any p (set gs g y) ≡ list_any p gs
any_set p [] g y same = refl
any_set p (x ∷ xs) zero y same = ap (λ b. b || list_any p xs) same
any_set p (x ∷ xs) (suc g) y same = ap (λ b. p x || b) (any_set p xs g y same)

-- main is dead where it was, after one that isn't main or is dead likewise is changed
dead_set : (gs : List Goroutine) (g : ℕ) (y : Goroutine) → is_dead y.status ≡ is_dead (get_or gs g nobody).status → is_dead (get_or (set gs g y) 0 nobody).status ≡ is_dead (get_or gs 0 nobody).status
dead_set gs g y same = changed (λ k x. is_dead x.status ≡ is_dead (get_or gs k nobody).status) nobody gs g y same (λ k. refl) 0

pub step_over : (code : Code) (settings : Settings) (s : State) (entry : Entry) → IsWhole s → May code settings s entry → over settings s ≡ true → over settings (after code settings s entry) ≡ true
unfolding after
step_over code settings s (Start w g) whole may e = absurd (true≢false (sym e ∙ may.not_over))
step_over code settings s (Run w g n) whole may e = absurd (true≢false (sym e ∙ (run_goes code settings s w g n may.is_next).not_over))
step_over code settings s (Op w g) whole may e = absurd (true≢false (sym e ∙ (op_goes code settings s w g may.is_next).not_over))
step_over code settings s (Tick w g) whole may e = over_too settings s _ (record { main = refl; fault = refl; entries = refl; ready = refl }) e
step_over code settings s (Park w g) whole may e =
    let y = turned Runnable (goroutine s g) in
    let runs = whole.on_worker w g may.runs in
    over_too settings s _ (record {
      main = dead_set s.goroutines g y (sym (ap is_dead runs));
      fault = refl;
      entries = refl;
      ready = any_set is_ready s.goroutines g y (sym (ap (λ status. is_runnable status || is_running status) runs));
    }) e
step_over code settings s (Open epoch room) whole may e = over_too settings s _ (record { main = refl; fault = refl; entries = refl; ready = refl }) e
step_over code settings s (Refuse room n) whole may e = over_too settings s _ (record { main = refl; fault = refl; entries = refl; ready = refl }) e
step_over code settings s (Record actor g) whole may e =
    let y = recorded s.active (goroutine s g) in
    over_too settings s _ (record { main = dead_set s.goroutines g y refl; fault = refl; entries = refl; ready = any_set is_ready s.goroutines g y refl }) e
step_over code settings s (Close epoch) whole may e = over_too settings s _ (record { main = refl; fault = refl; entries = refl; ready = refl }) e

pub over_stays : OverStays
over_stays = of_each (λ code settings before entry now. over settings before ≡ true → over settings now ≡ true) step_over

module _ (code : Code) (settings : Settings) (s : State) (whole : IsWhole s) (complete : IsComplete settings s) where
  none_runs : (w g : ℕ) → (worker s w).runs ≡ Some g → ⊥
  none_runs w g runs =
      let isnt = none_counted (λ x. is_running x.status) nobody s.goroutines refl complete.nobody_runs g in
      true≢false (sym (ap is_running (whole.on_worker w g runs)) ∙ isnt)

  none_asks : asked settings s ≡ true → ⊥
  none_asks e = let some = some_request settings s e in let none = ap length complete.none_left in absurd (omega arith)

  none_active_there : 0 < s.active → ⊥
  none_active_there some = let none = complete.none_active in absurd (omega arith)

  pub nothing_may : (entry : Entry) → May code settings s entry → ⊥
  nothing_may (Start w g) may = true≢false (sym complete.is_over ∙ may.not_over)
  nothing_may (Run w g n) may = none_runs w g may.runs
  nothing_may (Op w g) may = none_runs w g may.runs
  nothing_may (Tick w g) may = none_runs w g may.runs
  nothing_may (Park w g) may = none_runs w g may.runs
  nothing_may (Open epoch room) may = none_asks may.is_asked
  nothing_may (Refuse room n) may = none_asks may.is_asked
  nothing_may (Record actor g) may = none_active_there may.is_active
  nothing_may (Close epoch) may = none_active_there may.is_active

pub nothing_after_complete : NothingAfterComplete
nothing_after_complete = of_each (λ code settings before entry now. IsComplete settings before → ⊥)
    (λ code settings s entry whole may complete. nothing_may code settings s whole complete entry may)
