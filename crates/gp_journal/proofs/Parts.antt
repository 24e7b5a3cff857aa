-- Each part of an effect keeps a state whole.
use Rattle.std.proofs.Common.{◌≡◌, ◌⊎◌, ℕ, ◌+◌, ◌≤◌, Bool, true, false, not, ◌==◌, cond, List, set, Some, None, refl, sym, ap, ◌∙◌, subst, inl, inr, arith, true≢false, if◌then◌else◌}
use Rattle.std.proofs.lemmas.Bool.{ne_eqb, eq-eqb}
use Rattle.gp_sync.specs.declared.effect.Effect.{Effect}
use Rattle.gp_sync.specs.declared.effect.Effect.TheVariants.{Done, Blocks, Wakes, Fault}
use Rattle.gp_sync.specs.Operations.{Channel, Mutex}
use Rattle.gp_journal.specs.declared.goroutine.Goroutine.{Goroutine}
use Rattle.gp_journal.specs.declared.goroutine.Status.{Status}
use Rattle.gp_journal.specs.declared.goroutine.Status.TheVariants.{Runnable, Running, Blocked, Faulted, Dead}
use Rattle.gp_journal.specs.declared.goroutine.Worker.{Worker}
use Rattle.gp_journal.specs.declared.settings.Settings.{Settings}
use Rattle.gp_journal.specs.State.{Code, State, nobody, resting, goroutine, worker, is_running, is_dead, is_live}
use Rattle.gp_journal.specs.Effect.{turned, is_over_after, unmarked, blocked_at, woken_at, left, worked, with_goroutine, with_worker, passes, wakes, resumes, meets}
use Rattle.gp_sync.specs.Places.{places_of}
use Rattle.gp_journal.proofs.Places.{replaced, replaced_within}
use Rattle.gp_journal.proofs.Whole.{seats, Behind, IsWhole, Running-same, live_within, unloads, keeps_running, keeps_standing, frees, wait_lists}

pub live_status : {st : Status} (x : Goroutine) → x.status ≡ st → is_dead st ≡ false → is_live x ≡ true
live_status x e alive = ap (λ t. not (is_dead t)) e ∙ ap not alive

-- a running goroutine has the last epoch, and waits nowhere
pub running_last : (s : State) (w g : ℕ) → IsWhole s → (goroutine s g).status ≡ Running w → (goroutine s g).epoch ≡ s.last_epoch
running_last s w g whole e = at (whole.epochs g (live_status (goroutine s g) e refl))
  where
    at : ((goroutine s g).epoch ≡ s.last_epoch) ⊎ Behind s.active s.last_epoch (goroutine s g) → (goroutine s g).epoch ≡ s.last_epoch
    at (inl same) = same
    at (inr behind) = absurd (true≢false (sym (ap is_running e) ∙ behind.2))

pub not_waiting : (s : State) (w g n : ℕ) → IsWhole s → (goroutine s g).status ≡ Running w → places_of s.channels s.mutexes g ≤ n
not_waiting s w g n whole e = let none = subst (λ t. places_of s.channels s.mutexes g ≤ seats t) e (whole.waits g) in omega arith

-- g leaves w, with a status and a count of its own
pub off : (s : State) (w g : ℕ) (y : Goroutine) (v : Worker) → IsWhole s → (worker s w).runs ≡ Some g → y.epoch ≡ (goroutine s g).epoch → v.runs ≡ None → IsWhole (with_worker w v (with_goroutine g y s))
off s w g y v whole runs epoch none =
    frees s.goroutines (set s.workers w v) s.channels s.mutexes s.active s.last_epoch
    (unloads s.goroutines s.workers s.channels s.mutexes s.active s.last_epoch whole w v none)
    g y
    (replaced (λ n u. u.runs ≡ Some g → ⊥) resting s.workers w v (λ e. absurd (cc)) (λ e. absurd (cc))
    (λ n other e. other (Running-same (sym (whole.on_worker n g e) ∙ whole.on_worker w g runs))))
    (not_waiting s w g (seats y.status) whole (whole.on_worker w g runs))
    (λ live. inl (epoch ∙ running_last s w g whole (whole.on_worker w g runs)))

-- g goes on running on w
pub on : (s : State) (w g : ℕ) (y : Goroutine) (v : Worker) → IsWhole s → y.status ≡ (goroutine s g).status → y.epoch ≡ (goroutine s g).epoch → v.runs ≡ (worker s w).runs → IsWhole (with_worker w v (with_goroutine g y s))
on s w g y v whole status epoch runs =
    keeps_running (set s.goroutines g y) s.workers s.channels s.mutexes s.active s.last_epoch
    (keeps_standing s.goroutines s.workers s.channels s.mutexes s.active s.last_epoch whole g y status epoch) w v runs

pass_at : (died : Bool) (settings : Settings) (w g n : ℕ) (s : State) → IsWhole s → (worker s w).runs ≡ Some g →
    IsWhole (with_worker w (worked settings n died (worker s w)) (with_goroutine g (record (goroutine s g) { count = (goroutine s g).count + n; status = if died then Dead else (goroutine s g).status }) s))
pass_at true settings w g n s whole runs = off s w g _ _ whole runs refl refl
pass_at false settings w g n s whole runs = on s w g _ _ whole refl refl refl

pub passes_whole : (code : Code) (settings : Settings) (w g n : ℕ) (s : State) → IsWhole s → (worker s w).runs ≡ Some g → IsWhole (passes code settings w g n s)
passes_whole code settings w g n s whole runs = pass_at (is_over_after code n (goroutine s g)) settings w g n s whole runs

pub resumes_whole : (code : Code) (settings : Settings) (w g : ℕ) (s : State) → IsWhole s → (worker s w).runs ≡ Some g → IsWhole (resumes code settings w g s)
resumes_whole code settings w g s whole runs =
    passes_whole code settings w g 1 (with_goroutine g (unmarked (goroutine s g)) s)
    (keeps_standing s.goroutines s.workers s.channels s.mutexes s.active s.last_epoch whole g (unmarked (goroutine s g)) refl refl) runs

-- a goroutine that waits nowhere and has a place is blocked
pub blocked_by : (st : Status) → 1 ≤ seats st → st ≡ Blocked
blocked_by Blocked one = refl
blocked_by Runnable one = absurd (omega arith)
blocked_by (Running w) one = absurd (omega arith)
blocked_by Faulted one = absurd (omega arith)
blocked_by Dead one = absurd (omega arith)

pub wakes_whole : (h : ℕ) (s : State) → IsWhole s → (goroutine s h).status ≡ Blocked → places_of s.channels s.mutexes h ≤ 0 → IsWhole (wakes h s)
wakes_whole h s whole blocked none =
    frees s.goroutines s.workers s.channels s.mutexes s.active s.last_epoch whole h (woken_at s.clock (goroutine s h))
    (λ w e. let clash : Running w ≡ Blocked = sym (whole.on_worker w h e) ∙ blocked in absurd (cc)) none
    (λ live. fits (whole.epochs h (live_status (goroutine s h) blocked refl)))
  where
    fits : ((goroutine s h).epoch ≡ s.last_epoch) ⊎ Behind s.active s.last_epoch (goroutine s h) → ((goroutine s h).epoch ≡ s.last_epoch) ⊎ Behind s.active s.last_epoch (woken_at s.clock (goroutine s h))
    fits (inl same) = inl same
    fits (inr behind) = inr (behind.0, behind.1, refl)

abbrev pub one_if : Bool → ℕ
one_if b = cond b 1 0

-- What an operation of g does to the number of places of goroutine k.
abbrev pub Balances : Effect → ℕ → ℕ → ℕ → ℕ → Type 0
Balances Done g k old new = new ≤ old
Balances (Wakes h since) g k old new = new + one_if (h == k) ≤ old
Balances Blocks g k old new = new ≤ old + one_if (g == k)
Balances Fault g k old new = new ≤ old

pub one_if_eq : (a b : ℕ) → a ≡ b → one_if (a == b) ≡ 1
one_if_eq a b e = ap one_if (eq-eqb a b e)

one_if_ne : (a b : ℕ) → (a ≡ b → ⊥) → one_if (a == b) ≡ 0
one_if_ne a b apart = ap one_if (ne_eqb a b apart)

-- The state with other wait lists, in which an operation of g with an effect leaves them.
abbrev pub with_wait_lists : List Channel → List Mutex → State → State
with_wait_lists cs ms s = record s { channels = cs; mutexes = ms }

module _ (code : Code) (settings : Settings) (w g : ℕ) (s : State) (cs : List Channel) (ms : List Mutex) (whole : IsWhole s) (runs : (worker s w).runs ≡ Some g) where
  fewer : ((k : ℕ) → places_of cs ms k ≤ places_of s.channels s.mutexes k) → IsWhole (with_wait_lists cs ms s)
  fewer less = wait_lists s.goroutines s.workers s.channels s.mutexes s.active s.last_epoch whole cs ms (λ k. let a = less k in let b = whole.waits k in omega arith)

  pub meets_whole : (effect : Effect) → ((k : ℕ) → Balances effect g k (places_of s.channels s.mutexes k) (places_of cs ms k)) → IsWhole (meets code settings w g effect (with_wait_lists cs ms s))
  unfolding meets
  meets_whole Done balance = passes_whole code settings w g 1 (with_wait_lists cs ms s) (fewer balance) runs
  meets_whole (Wakes h since) balance =
      let less : (k : ℕ) → places_of cs ms k ≤ places_of s.channels s.mutexes k = λ k. let a = balance k in omega arith in
      let mine = balance h in
      let one = one_if_eq h h refl in
      let seat : 1 ≤ seats (goroutine s h).status = let b = whole.waits h in omega arith in
      let blocked : (goroutine s h).status ≡ Blocked = blocked_by (goroutine s h).status seat in
      let at_most : places_of s.channels s.mutexes h ≤ 1 = subst (λ t. places_of s.channels s.mutexes h ≤ seats t) blocked (whole.waits h) in
      passes_whole code settings w g 1 (wakes h (with_wait_lists cs ms s)) (wakes_whole h (with_wait_lists cs ms s) (fewer less) blocked (omega arith)) runs
  meets_whole Blocks balance =
      let y = blocked_at s.clock (goroutine s g) in
      let status = whole.on_worker w g runs in
      let base = off s w g y (left (worker s w)) whole runs refl refl in
      wait_lists (set s.goroutines g y) (set s.workers w (left (worker s w))) s.channels s.mutexes s.active s.last_epoch base cs ms
      (replaced_within (λ n x. places_of cs ms n ≤ seats x.status) nobody s.goroutines g y (live_within s.goroutines g (live_status (goroutine s g) status refl))
      (let none = not_waiting s w g 0 whole status in let mine = balance g in let one = one_if_eq g g refl in omega arith)
      (λ n other. let mine = balance n in let zero = one_if_ne g n (λ e. other (sym e)) in let old = whole.waits n in omega arith))
  meets_whole Fault balance = off (with_wait_lists cs ms s) w g (turned Faulted (goroutine s g)) (left (worker s w)) (fewer balance) runs refl refl
