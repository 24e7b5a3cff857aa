-- The queue holds the runnable, each once.
use Rattle.std.proofs.Common.{◌≡◌, ◌⊎◌, ℕ, ◌+◌, ◌<◌, Bool, true, false, not, ◌==◌, cond, List, [], ◌∷◌, ◌++◌, length, get_or, set, take, Some, refl, sym, ap, ◌∙◌, subst, inl, inr, arith, zero, suc, if◌then◌else◌, get_or-set_other}
use Rattle.std.proofs.lemmas.List.{get_or_past, get_or_push, get_or_append_left}
use Rattle.std.proofs.lemmas.List.Sums.{sum_by-cons, sum_by_push}
use Rattle.std.proofs.lemmas.Bool.{cases_eq, ne_eqb, eqb-true}
use Rattle.gp_journal.specs.declared.entry.Entry.{Entry}
use Rattle.gp_journal.specs.declared.entry.Entry.TheVariants.{Start, Run, Op, Tick, Park, Open, Refuse, Record, Close}
use Rattle.gp_journal.specs.declared.goroutine.Goroutine.{Goroutine}
use Rattle.gp_journal.specs.declared.goroutine.Status.TheVariants.{Runnable, Running, Blocked, Faulted, Dead}
use Rattle.gp_journal.specs.declared.settings.Settings.{Settings}
use Rattle.gp_journal.specs.State.{Code, State, nobody, goroutine, worker, is_runnable, births, first}
use Rattle.gp_journal.specs.May.{May}
use Rattle.gp_journal.specs.Effect.{turned, recorded, passed, is_over_after, unmarked, blocked_at, woken_at, child_of, acts, after}
use Rattle.gp_journal.specs.Run.{AreLegal, IsLegal, after_all, last}
use Rattle.gp_journal.specs.Standing.{times, without}
use Rattle.gp_journal.specs.RunLaws.{HoldsRunnable, QueueHoldsRunnable}
use Rattle.gp_journal.proofs.Places.{changed, pushed, replaced, replaced_within}
use Rattle.gp_journal.proofs.Whole.{IsWhole, live_within}
use Rattle.gp_journal.proofs.Parts.{live_status, one_if, one_if_eq}
use Rattle.gp_journal.proofs.Acts.{acts_all}
use Rattle.gp_journal.proofs.Steps.{step_whole}
use Rattle.gp_journal.proofs.Law.{first_whole, prefix_legal}

-- A goroutine stands there as often as its status says.
abbrev Stands : List ℕ → ℕ → Goroutine → Type 0
Stands queue g x = times g queue ≡ one_if (is_runnable x.status)

abbrev Holds : List Goroutine → List ℕ → Type 0
Holds gs queue = (g : ℕ) → Stands queue g (get_or gs g nobody)

apart : (a b : ℕ) → (b ≡ a → ⊥) → one_if (a == b) ≡ 0
apart a b other = ap one_if (ne_eqb a b (λ e. other (sym e)))

at_tail : (g h : ℕ) (queue : List ℕ) → times g (queue ++ h ∷ []) ≡ times g queue + one_if (h == g)
at_tail g h queue = sum_by_push (λ other. cond (other == g) 1 0) queue h

gone : (g : ℕ) (queue : List ℕ) → times g (without g queue) ≡ 0
gone g [] = refl
gone g (x ∷ queue) = at (x == g) refl (gone g queue)
  where
    at : (b : Bool) → (x == g) ≡ b → times g (without g queue) ≡ 0 → times g (if not b then x ∷ without g queue else without g queue) ≡ 0
    at true e rest = rest
    at false e rest = let a = ap one_if e in omega (arith, sum_by-cons (λ other. cond (other == g) 1 0) x (without g queue))

stays_in : (g h : ℕ) (queue : List ℕ) → (h ≡ g → ⊥) → times h (without g queue) ≡ times h queue
stays_in g h [] other = refl
stays_in g h (x ∷ queue) other = at (x == g) refl (stays_in g h queue other)
  where
    at : (b : Bool) → (x == g) ≡ b → times h (without g queue) ≡ times h queue → times h (if not b then x ∷ without g queue else without g queue) ≡ times h (x ∷ queue)
    at true e rest = let a = apart x h (λ same. other (same ∙ eqb-true x g e)) in omega (arith, sum_by-cons (λ other. cond (other == h) 1 0) x queue)
    at false e rest = omega (arith, sum_by-cons (λ other. cond (other == h) 1 0) x queue, sum_by-cons (λ other. cond (other == h) 1 0) x (without g queue))

-- One goroutine changes.
module _ (gs : List Goroutine) (queue : List ℕ) (g : ℕ) (y : Goroutine) (holds : Holds gs queue) where
  -- it is as runnable as before
  keeps : is_runnable y.status ≡ is_runnable (get_or gs g nobody).status → Holds (set gs g y) queue
  keeps same = changed (Stands queue) nobody gs g y (holds g ∙ ap one_if (sym same)) holds

  -- it wasn't runnable, and goes to the tail
  joins : g < length gs → is_runnable (get_or gs g nobody).status ≡ false → is_runnable y.status ≡ true → Holds (set gs g y) (queue ++ g ∷ [])
  joins within was is = replaced_within (Stands (queue ++ g ∷ [])) nobody gs g y within
      (let a = holds g in let b = ap one_if was in let c = ap one_if is in let d = at_tail g g queue in let e = one_if_eq g g refl in omega arith)
      (λ n other. at_tail n g queue ∙ (let a = apart g n other in let b = holds n in omega arith))

  -- it isn't runnable any more, and leaves
  leaves_queue : is_runnable y.status ≡ false → Holds (set gs g y) (without g queue)
  leaves_queue isnt = replaced (Stands (without g queue)) nobody gs g y
      (gone g queue ∙ sym (ap one_if isnt)) (gone g queue) (λ n other. stays_in g n queue other ∙ holds n)

-- One is born under the next number.
born : (gs : List Goroutine) (queue : List ℕ) (y : Goroutine) → Holds gs queue → is_runnable y.status ≡ true → Holds (gs ++ y ∷ []) (queue ++ length gs ∷ [])
born gs queue y holds is k = at (cases_eq k (length gs))
  where
    at : (k ≡ length gs) ⊎ (k ≡ length gs → ⊥) → Stands (queue ++ length gs ∷ []) k (get_or (gs ++ y ∷ []) k nobody)
    at (inl same) = subst (λ n. Stands (queue ++ length gs ∷ []) n (get_or (gs ++ y ∷ []) n nobody)) (sym same)
        (rw (get_or_push gs y nobody (length gs) refl)
        (let a = holds (length gs) in let b = ap (λ (x : Goroutine). one_if (is_runnable x.status)) (get_or_past gs (length gs) nobody (omega arith)) in let c = ap one_if is in
        let d = at_tail (length gs) (length gs) queue in let e = one_if_eq (length gs) (length gs) refl in omega arith))
    at (inr other) = pushed (λ n x. (n ≡ length gs → ⊥) → Stands (queue ++ length gs ∷ []) n x) nobody gs y
        (λ never. absurd (never refl))
        (λ n here. at_tail n (length gs) queue ∙ (let a = apart (length gs) n here in let b = holds n in omega arith)) k other

abbrev IsHeld : State → Type 0
IsHeld s = Holds s.goroutines s.queue

-- One that isn't runnable passes points.
passer : (code : Code) (gs : List Goroutine) (queue : List ℕ) (g n : ℕ) → Holds gs queue → is_runnable (get_or gs g nobody).status ≡ false → Holds (set gs g (passed code n (get_or gs g nobody))) queue
passer code gs queue g n holds isnt = keeps gs queue g (passed code n (get_or gs g nobody)) holds (at (is_over_after code n (get_or gs g nobody)) ∙ sym isnt)
  where
    at : (died : Bool) → is_runnable (if died then Dead else (get_or gs g nobody).status) ≡ false
    at true = refl
    at false = isnt

acted : (code : Code) (settings : Settings) (w g : ℕ) (s : State) → IsWhole s → IsHeld s → (worker s w).runs ≡ Some g → IsHeld (acts code settings w g s)
acted code settings w g s whole held runs =
    let status = whole.on_worker w g runs in
    let isnt : is_runnable (goroutine s g).status ≡ false = ap is_runnable status in
    let within : g < length s.goroutines = live_within s.goroutines g (live_status (goroutine s g) status refl) in
    acts_all code settings w g s IsHeld whole (record {
      stays = held;
      resumed = passer code (set s.goroutines g (unmarked (goroutine s g))) s.queue g 1 (keeps s.goroutines s.queue g (unmarked (goroutine s g)) held refl)
          (changed (λ k x. k ≡ g → is_runnable x.status ≡ false) nobody s.goroutines g (unmarked (goroutine s g)) (λ e. isnt)
          (λ k e. subst (λ n. is_runnable (goroutine s n).status ≡ false) (sym e) isnt) g refl);
      passed = λ cs ms. passer code s.goroutines s.queue g 1 held isnt;
      woke = λ cs ms h blocked.
          let y = woken_at s.clock (goroutine s h) in
          passer code (set s.goroutines h y) (s.queue ++ h ∷ []) g 1
          (joins s.goroutines s.queue h y held (live_within s.goroutines h (live_status (goroutine s h) blocked refl)) (ap is_runnable blocked) refl)
          (rw (get_or-set_other s.goroutines h g y nobody (λ same. let clash : Running w ≡ Blocked = sym status ∙ subst (λ n. (goroutine s n).status ≡ Blocked) (sym same) blocked in absurd (cc)))
          isnt);
      blocked = λ cs ms. keeps s.goroutines s.queue g (blocked_at s.clock (goroutine s g)) held (sym isnt);
      faulted = λ cause cs ms some. keeps s.goroutines s.queue g (turned Faulted (goroutine s g)) held (sym isnt);
      bore = λ function room.
          let y = child_of code function g s in
          passer code (s.goroutines ++ y ∷ []) (s.queue ++ births s ∷ []) g 1 (born s.goroutines s.queue y held refl)
          (rw (get_or_append_left s.goroutines (y ∷ []) nobody g within) isnt);
    })

pub step_held : (code : Code) (settings : Settings) (s : State) (entry : Entry) → IsWhole s → HoldsRunnable s → May code settings s entry → HoldsRunnable (after code settings s entry)
unfolding after
step_held code settings s (Start w g) whole held may = leaves_queue s.goroutines s.queue g (turned (Running w) (goroutine s g)) held refl
step_held code settings s (Run w g n) whole held may = passer code s.goroutines s.queue g n held (ap is_runnable (whole.on_worker w g may.runs))
step_held code settings s (Op w g) whole held may = acted code settings w g s whole held may.runs
step_held code settings s (Tick w g) whole held may = held
step_held code settings s (Park w g) whole held may =
    let status = whole.on_worker w g may.runs in
    joins s.goroutines s.queue g (turned Runnable (goroutine s g)) held (live_within s.goroutines g (live_status (goroutine s g) status refl)) (ap is_runnable status) refl
step_held code settings s (Open epoch room) whole held may = held
step_held code settings s (Refuse room n) whole held may = held
step_held code settings s (Record actor g) whole held may = keeps s.goroutines s.queue g (recorded s.active (goroutine s g)) held refl
step_held code settings s (Close epoch) whole held may = held

all_held : (code : Code) (settings : Settings) (s : State) (entries : List Entry) → IsWhole s → HoldsRunnable s → AreLegal code settings s entries → HoldsRunnable (after_all code settings s entries)
all_held code settings s [] whole held legal = held
all_held code settings s (entry ∷ entries) whole held legal =
    all_held code settings (after code settings s entry) entries (step_whole code settings s entry whole legal.0) (step_held code settings s entry whole held legal.0) legal.1

first_held : (code : Code) (settings : Settings) → HoldsRunnable (first code settings)
first_held code settings zero = refl
first_held code settings (suc g) = omega (arith, apart 0 (suc g) (λ same. omega arith))

-- at the end of a legal journal
pub last_held : (code : Code) (settings : Settings) (journal : List Entry) → IsLegal code settings journal → HoldsRunnable (last code settings journal)
last_held code settings journal legal = all_held code settings (first code settings) journal (first_whole code settings) (first_held code settings) legal

pub queue_holds_runnable : QueueHoldsRunnable
queue_holds_runnable code settings journal k legal = last_held code settings (take k journal) (prefix_legal code settings (first code settings) k journal legal)
