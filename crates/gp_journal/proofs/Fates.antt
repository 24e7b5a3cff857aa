-- Faults, deaths and births.
use Rattle.std.proofs.Common.{◌≡◌, ◌⊎◌, ℕ, ◌+◌, ◌<◌, ◌≤◌, Bool, true, false, not, ◌||◌, ◌==◌, List, [], ◌∷◌, ◌++◌, length, get_or, set, refl, sym, ap, ◌∙◌, subst, inl, inr, arith, zero, suc, true≢false, if◌then◌else◌, length-set, eqb-true, leb-true}
use Rattle.std.specs.List.{list_any}
use Rattle.std.proofs.lemmas.List.{length_push}
use Rattle.std.proofs.lemmas.Bool.{or_parts, or_cases, or_right, not-false, leb-false, eq-eqb}
use Rattle.gp_journal.specs.declared.entry.Entry.{Entry}
use Rattle.gp_journal.specs.declared.entry.Entry.TheVariants.{Start, Run, Op, Tick, Park, Open, Refuse, Record, Close}
use Rattle.gp_journal.specs.declared.goroutine.Goroutine.{Goroutine}
use Rattle.gp_journal.specs.declared.goroutine.Status.{Status}
use Rattle.gp_journal.specs.declared.goroutine.Status.TheVariants.{Runnable, Running, Blocked, Faulted, Dead}
use Rattle.gp_journal.specs.declared.settings.Settings.{Settings}
use Rattle.gp_journal.specs.State.{Code, State, nobody, goroutine, is_runnable, is_running, is_dead, is_live, first, main_goroutine}
use Rattle.gp_journal.specs.Due.{over, is_full, is_ready, some_ready, IsComplete}
use Rattle.gp_journal.specs.May.{May}
use Rattle.gp_journal.specs.Effect.{turned, recorded, passed, is_over_after, unmarked, blocked_at, woken_at, child_of, acts, after}
use Rattle.gp_journal.specs.RunLaws.{Grows, EndsOneWay}
use Rattle.gp_journal.proofs.Places.{changed, pushed, none_counted}
use Rattle.gp_journal.proofs.Whole.{IsWhole}
use Rattle.gp_journal.proofs.Acts.{acts_all}
use Rattle.gp_journal.proofs.Going.{op_goes, run_goes}

-- what a run that isn't over tells
pub record Continues (settings : Settings) (s : State) : Type 0 where
  pub main_alive : is_dead (goroutine s 0).status ≡ false
  pub no_fault : s.fault ≡ 0
  pub not_full : s.entries < settings.entries

pub continues : (settings : Settings) (s : State) → over settings s ≡ false → Continues settings s
unfolding over
continues settings s e =
    let a = or_parts (is_dead (goroutine s 0).status || not (s.fault == 0) || is_full settings s) (not (some_ready s)) e in
    let b = or_parts (is_dead (goroutine s 0).status || not (s.fault == 0)) (is_full settings s) a.0 in
    let c = or_parts (is_dead (goroutine s 0).status) (not (s.fault == 0)) b.0 in
    record { main_alive = c.0; no_fault = eqb-true s.fault 0 (not-false (s.fault == 0) c.1); not_full = leb-false settings.entries s.entries b.1 }

-- Where a fault was made main isn't dead, and who is faulted made one.
pub record Fates (gs : List Goroutine) (fault : ℕ) : Type 0 where
  pub main_lives : 1 ≤ fault → is_dead (get_or gs 0 nobody).status ≡ false
  pub faulted : (g : ℕ) → (get_or gs g nobody).status ≡ Faulted → 1 ≤ fault

-- a goroutine that turns neither dead nor faulted
alive : (gs : List Goroutine) (fault g : ℕ) (y : Goroutine) → Fates gs fault → is_dead y.status ≡ false → (y.status ≡ Faulted → 1 ≤ fault) → Fates (set gs g y) fault
alive gs fault g y fates lives none = record {
  main_lives = λ some. changed (λ k x. k ≡ 0 → is_dead x.status ≡ false) nobody gs g y (λ e. lives)
      (λ k e. subst (λ n. is_dead (get_or gs n nobody).status ≡ false) (sym e) (fates.main_lives some)) 0 refl;
  faulted = changed (λ k x. x.status ≡ Faulted → 1 ≤ fault) nobody gs g y none fates.faulted;
}

-- where no fault was made, nobody is faulted, and deaths change nothing
innocent : (gs : List Goroutine) (g : ℕ) (y : Goroutine) → Fates gs 0 → (y.status ≡ Faulted → ⊥) → Fates (set gs g y) 0
innocent gs g y fates none = record {
  main_lives = λ some. absurd (omega arith);
  faulted = changed (λ k x. x.status ≡ Faulted → 1 ≤ 0) nobody gs g y (λ e. absurd (none e)) fates.faulted;
}

passed_innocent : (code : Code) (n : ℕ) (x : Goroutine) → (x.status ≡ Faulted → ⊥) → (passed code n x).status ≡ Faulted → ⊥
passed_innocent code n x none = at (is_over_after code n x)
  where
    at : (b : Bool) → (if b then Dead else x.status) ≡ Faulted → ⊥
    at true e = absurd (cc)
    at false e = none e

passer : (code : Code) (n g : ℕ) (gs : List Goroutine) → Fates gs 0 → Fates (set gs g (passed code n (get_or gs g nobody))) 0
passer code n g gs fates = innocent gs g (passed code n (get_or gs g nobody)) fates (passed_innocent code n (get_or gs g nobody) (λ e. let bad = fates.faulted g e in omega arith))

acted : (code : Code) (settings : Settings) (w g : ℕ) (s : State) → IsWhole s → Fates s.goroutines s.fault → over settings s ≡ false →
    Fates (acts code settings w g s).goroutines (acts code settings w g s).fault
acted code settings w g s whole fates not_over =
    let c = continues settings s not_over in
    let clean : Fates s.goroutines 0 = subst (Fates s.goroutines) c.no_fault fates in
    let mine : (goroutine s g).status ≡ Faulted → ⊥ = λ e. let bad = clean.faulted g e in omega arith in
    acts_all code settings w g s (λ t. Fates t.goroutines t.fault) whole (record {
      stays = fates;
      resumed = rw c.no_fault (passer code 1 g _ (innocent s.goroutines g (unmarked (goroutine s g)) clean mine));
      passed = λ cs ms. rw c.no_fault (passer code 1 g _ clean);
      woke = λ cs ms h blocked. rw c.no_fault (passer code 1 g _ (innocent s.goroutines h (woken_at s.clock (goroutine s h)) clean (λ e. absurd (cc))));
      blocked = λ cs ms. rw c.no_fault (innocent s.goroutines g (blocked_at s.clock (goroutine s g)) clean (λ e. absurd (cc)));
      faulted = λ cause cs ms some. record {
        main_lives = λ one. changed (λ k x. k ≡ 0 → is_dead x.status ≡ false) nobody s.goroutines g (turned Faulted (goroutine s g)) (λ e. refl)
            (λ k e. subst (λ n. is_dead (goroutine s n).status ≡ false) (sym e) c.main_alive) 0 refl;
        faulted = λ k e. some;
      };
      bore = λ function room. rw c.no_fault (passer code 1 g _ (record {
        main_lives = λ some. absurd (omega arith);
        faulted = pushed (λ k x. x.status ≡ Faulted → 1 ≤ 0) nobody s.goroutines (child_of code function g s) (λ e. absurd (cc)) clean.faulted;
      }));
    })

pub step_fates : (code : Code) (settings : Settings) (s : State) (entry : Entry) → IsWhole s → Fates s.goroutines s.fault → May code settings s entry →
    Fates (after code settings s entry).goroutines (after code settings s entry).fault
unfolding after
step_fates code settings s (Start w g) whole fates may = alive s.goroutines s.fault g (turned (Running w) (goroutine s g)) fates refl (λ e. absurd (cc))
step_fates code settings s (Run w g n) whole fates may =
    let c = continues settings s ((run_goes code settings s w g n may.is_next).not_over) in
    rw c.no_fault (passer code n g s.goroutines (subst (Fates s.goroutines) c.no_fault fates))
step_fates code settings s (Op w g) whole fates may = acted code settings w g s whole fates ((op_goes code settings s w g may.is_next).not_over)
step_fates code settings s (Tick w g) whole fates may = fates
step_fates code settings s (Park w g) whole fates may = alive s.goroutines s.fault g (turned Runnable (goroutine s g)) fates refl (λ e. absurd (cc))
step_fates code settings s (Open epoch room) whole fates may = fates
step_fates code settings s (Refuse room n) whole fates may = fates
step_fates code settings s (Record actor g) whole fates may = record {
  main_lives = λ some. changed (λ k x. k ≡ 0 → is_dead x.status ≡ false) nobody s.goroutines g y (λ e. subst (λ n. is_dead (goroutine s n).status ≡ false) (sym e) (fates.main_lives some))
      (λ k e. subst (λ n. is_dead (goroutine s n).status ≡ false) (sym e) (fates.main_lives some)) 0 refl;
  faulted = changed (λ k x. x.status ≡ Faulted → 1 ≤ s.fault) nobody s.goroutines g y (fates.faulted g) fates.faulted;
}
  where
    y : Goroutine
    y = recorded s.active (goroutine s g)
step_fates code settings s (Close epoch) whole fates may = fates

pub first_fates : (code : Code) (settings : Settings) → Fates (first code settings).goroutines (first code settings).fault
first_fates code settings = record { main_lives = λ some. absurd (omega arith); faulted = λ g e. absurd (none g e) }
  where
    none : (g : ℕ) → (get_or (main_goroutine code ∷ []) g nobody).status ≡ Faulted → ⊥
    none zero e = absurd (cc)
    none (suc g) e = absurd (cc)

-- some goroutine passes a test
any_at : (p : Goroutine → Bool) (gs : List Goroutine) (g : ℕ) → p nobody ≡ false → p (get_or gs g nobody) ≡ true → list_any p gs ≡ true
any_at p [] g past e = absurd (true≢false (sym e ∙ past))
any_at p (x ∷ xs) zero past e = rw e refl
any_at p (x ∷ xs) (suc g) past e = or_right (p x) (list_any p xs) (any_at p xs g past e)

pub ends_one_way : (settings : Settings) (s : State) → Fates s.goroutines s.fault → IsComplete settings s → EndsOneWay settings s
unfolding over
ends_one_way settings s fates complete = record {
  by_fault = fates.main_lives;
  by_entries = λ g clean lives runnable. full g clean lives runnable (or_cases (is_dead (goroutine s 0).status || not (s.fault == 0) || is_full settings s) (not (some_ready s)) complete.is_over);
  by_deadlock = λ clean none g live. blocked g (goroutine s g).status refl clean none live;
}
  where
    full : (g : ℕ) → s.fault ≡ 0 → is_dead (goroutine s 0).status ≡ false → (goroutine s g).status ≡ Runnable →
        ((is_dead (goroutine s 0).status || not (s.fault == 0) || is_full settings s) ≡ true) ⊎ (not (some_ready s) ≡ true) → settings.entries ≤ s.entries
    full g clean lives runnable (inr none) =
        absurd (true≢false (sym none ∙ ap not (any_at is_ready s.goroutines g refl (ap (λ t. is_runnable t || is_running t) runnable))))
    full g clean lives runnable (inl e) = either (or_cases (is_dead (goroutine s 0).status || not (s.fault == 0)) (is_full settings s) e)
      where
        first_two : ((is_dead (goroutine s 0).status ≡ true) ⊎ (not (s.fault == 0) ≡ true)) → settings.entries ≤ s.entries
        first_two (inl dead) = absurd (true≢false (sym dead ∙ lives))
        first_two (inr made) = absurd (true≢false (sym made ∙ ap not (eq-eqb s.fault 0 clean)))

        either : ((is_dead (goroutine s 0).status || not (s.fault == 0)) ≡ true) ⊎ (is_full settings s ≡ true) → settings.entries ≤ s.entries
        either (inl two) = first_two (or_cases (is_dead (goroutine s 0).status) (not (s.fault == 0)) two)
        either (inr is) = leb-true settings.entries s.entries is

    blocked : (g : ℕ) (st : Status) → (goroutine s g).status ≡ st → s.fault ≡ 0 → ((k : ℕ) → (goroutine s k).status ≡ Runnable → ⊥) → is_live (goroutine s g) ≡ true → (goroutine s g).status ≡ Blocked
    blocked g Blocked e clean none live = e
    blocked g Runnable e clean none live = absurd (none g e)
    blocked g (Running w) e clean none live =
        absurd (true≢false (sym (ap is_running e) ∙ none_counted (λ x. is_running x.status) nobody s.goroutines refl complete.nobody_runs g))
    blocked g Faulted e clean none live = let bad = fates.faulted g e in absurd (omega arith)
    blocked g Dead e clean none live = absurd (true≢false (sym live ∙ ap (λ t. not (is_dead t)) e))

-- Born goroutines keep their function and the set that they inherited.
pub record SameOrigin (x y : Goroutine) : Type 0 where
  pub start : y.start ≡ x.start
  pub inherited : y.set ≡ x.set

Kept : List Goroutine → ℕ → Goroutine → Type 0
Kept gs k x = k < length gs → SameOrigin (get_or gs k nobody) x

abbrev AreKept : List Goroutine → List Goroutine → Type 0
AreKept gs new = (k : ℕ) → Kept gs k (get_or new k nobody)

kept_all : (gs : List Goroutine) → AreKept gs gs
unfolding Kept
kept_all gs k within = record { start = refl; inherited = refl }

kept_set : (gs new : List Goroutine) (g : ℕ) (y : Goroutine) → AreKept gs new → y.start ≡ (get_or new g nobody).start → y.set ≡ (get_or new g nobody).set → AreKept gs (set new g y)
unfolding Kept
kept_set gs new g y kept start inherited =
    changed (Kept gs) nobody new g y (λ within. let old = kept g within in record { start = start ∙ old.start; inherited = inherited ∙ old.inherited }) kept

kept_push : (gs : List Goroutine) (y : Goroutine) → AreKept gs (gs ++ y ∷ [])
unfolding Kept
kept_push gs y = pushed (Kept gs) nobody gs y (λ within. absurd (omega arith)) (kept_all gs)

abbrev Grew : List Goroutine → List Goroutine → Type 0
Grew gs new = ((length new ≡ length gs) ⊎ (length new ≡ length gs + 1)) × AreKept gs new

one_set : (gs : List Goroutine) (g : ℕ) (y : Goroutine) → y.start ≡ (get_or gs g nobody).start → y.set ≡ (get_or gs g nobody).set → Grew gs (set gs g y)
one_set gs g y start inherited = (inl (length-set gs g y), kept_set gs gs g y (kept_all gs) start inherited)

again_set : (gs new : List Goroutine) (g : ℕ) (y : Goroutine) → Grew gs new → y.start ≡ (get_or new g nobody).start → y.set ≡ (get_or new g nobody).set → Grew gs (set new g y)
again_set gs new g y grew start inherited = (subst (λ n. (n ≡ length gs) ⊎ (n ≡ length gs + 1)) (sym (length-set new g y)) grew.0, kept_set gs new g y grew.1 start inherited)

step_grew : (code : Code) (settings : Settings) (s : State) (entry : Entry) → IsWhole s → May code settings s entry → Grew s.goroutines (after code settings s entry).goroutines
unfolding after
step_grew code settings s (Start w g) whole may = one_set s.goroutines g _ refl refl
step_grew code settings s (Run w g n) whole may = one_set s.goroutines g _ refl refl
step_grew code settings s (Op w g) whole may =
    acts_all code settings w g s (λ t. Grew s.goroutines t.goroutines) whole (record {
      stays = (inl refl, kept_all s.goroutines);
      resumed = again_set s.goroutines _ g _ (one_set s.goroutines g (unmarked (goroutine s g)) refl refl) refl refl;
      passed = λ cs ms. one_set s.goroutines g _ refl refl;
      woke = λ cs ms h blocked. again_set s.goroutines _ g _ (one_set s.goroutines h (woken_at s.clock (goroutine s h)) refl refl) refl refl;
      blocked = λ cs ms. one_set s.goroutines g _ refl refl;
      faulted = λ cause cs ms some. one_set s.goroutines g _ refl refl;
      bore = λ function room. again_set s.goroutines _ g _ (inr (length_push s.goroutines (child_of code function g s)), kept_push s.goroutines (child_of code function g s)) refl refl;
    })
step_grew code settings s (Tick w g) whole may = (inl refl, kept_all s.goroutines)
step_grew code settings s (Park w g) whole may = one_set s.goroutines g _ refl refl
step_grew code settings s (Open epoch room) whole may = (inl refl, kept_all s.goroutines)
step_grew code settings s (Refuse room n) whole may = (inl refl, kept_all s.goroutines)
step_grew code settings s (Record actor g) whole may = one_set s.goroutines g _ refl refl
step_grew code settings s (Close epoch) whole may = (inl refl, kept_all s.goroutines)

pub grows : (code : Code) (settings : Settings) (s : State) (entry : Entry) → IsWhole s → May code settings s entry → Grows s (after code settings s entry)
unfolding Kept
grows code settings s entry whole may =
    let grew = step_grew code settings s entry whole may in
    record { next_number = grew.0; same_start = λ g within. (grew.1 g within).start; same_set = λ g within. (grew.1 g within).inherited }
