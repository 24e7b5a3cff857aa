-- Each entry keeps a state whole.
use Rattle.std.proofs.Common.{◌≡◌, ◌⊎◌, ℕ, ◌<◌, ◌≤◌, Bool, true, false, ◌==◌, length, get_or, set, Some, refl, sym, ◌∙◌, subst, inl, inr, arith, true≢false, if◌then◌else◌, nat_lt}
use Rattle.std.proofs.lemmas.Bool.{and_parts, and_from, or_cases, lt-ltb, ltb-true, eqb-true}
use Rattle.gp_isa.specs.Trace.{Instruction}
use Rattle.gp_stack.specs.Peek.{operation_of}
use Rattle.gp_journal.specs.declared.entry.Entry.{Entry}
use Rattle.gp_journal.specs.declared.entry.Entry.TheVariants.{Start, Run, Op, Tick, Park, Open, Refuse, Record, Close}
use Rattle.gp_journal.specs.declared.goroutine.Goroutine.{Goroutine}
use Rattle.gp_journal.specs.declared.goroutine.Status.TheVariants.{Runnable, Running, Faulted}
use Rattle.gp_journal.specs.declared.settings.Settings.{Settings}
use Rattle.gp_journal.specs.State.{Code, State, nobody, resting, goroutine, worker, is_running, is_live, is_behind, births}
use Rattle.gp_journal.specs.Due.{asked, next_instruction}
use Rattle.gp_journal.specs.May.{May, MayOpen, MayClose, is_recorded}
use Rattle.gp_journal.specs.Effect.{turned, recorded, started, left, ticked, with_goroutine, starts, passes, faults, bears, meets, Outcome, Meets, Spawns, Stays, outcome_of, comes_to, operates, after}
use Rattle.gp_sync.specs.Places.{places_of}
use Rattle.gp_journal.proofs.Places.{changed, replaced_within, none_counted}
use Rattle.gp_journal.proofs.Whole.{seats, Behind, Fits, Whole, IsWhole, some_same, live_within, keeps_running, frees, gains}
use Rattle.gp_journal.proofs.Parts.{live_status, running_last, off, passes_whole, resumes_whole, meets_whole}
use Rattle.gp_journal.proofs.Outcomes.{MovesBy, outcome_moves}

-- a runnable goroutine begins to run
pub starts_whole : (w g : ℕ) (s : State) → IsWhole s → (goroutine s g).status ≡ Runnable → is_recorded s g ≡ true → IsWhole (starts w g s)
starts_whole w g s whole runnable known = record {
  on_worker = changed (λ n u. (k : ℕ) → u.runs ≡ Some k → (get_or (set s.goroutines g y) k nobody).status ≡ Running n) resting s.workers w (started g (worker s w))
      (λ k e. replaced_within (λ n x. n ≡ k → x.status ≡ Running w) nobody s.goroutines g y within (λ here. refl) (λ n other here. absurd (other (here ∙ sym (some_same e)))) k refl)
      (λ n k e. changed (λ m x. m ≡ k → x.status ≡ Running n) nobody s.goroutines g y
      (λ here. let clash : Running n ≡ Runnable = sym (whole.on_worker n k e) ∙ subst (λ m. (goroutine s m).status ≡ Runnable) here runnable in absurd (cc))
      (λ m here. subst (λ i. (goroutine s i).status ≡ Running n) (sym here) (whole.on_worker n k e)) k refl);
  waits = changed (λ n x. places_of s.channels s.mutexes n ≤ seats x.status) nobody s.goroutines g y (subst (λ t. places_of s.channels s.mutexes g ≤ seats t) runnable (whole.waits g)) whole.waits;
  epochs = changed (λ n x. Fits s.active s.last_epoch x) nobody s.goroutines g y (λ live. inl (has_last (whole.epochs g (live_status (goroutine s g) runnable refl)))) whole.epochs;
  is_last = whole.is_last;
}
  where
    y : Goroutine
    y = turned (Running w) (goroutine s g)

    within : g < length s.goroutines
    within = live_within s.goroutines g (live_status (goroutine s g) runnable refl)

    has_last : ((goroutine s g).epoch ≡ s.last_epoch) ⊎ Behind s.active s.last_epoch (goroutine s g) → (goroutine s g).epoch ≡ s.last_epoch
    has_last (inl same) = same
    has_last (inr behind) = which (or_cases (s.active == 0) ((goroutine s g).epoch == s.active) known) whole.is_last
      where
        which : ((s.active == 0) ≡ true) ⊎ (((goroutine s g).epoch == s.active) ≡ true) → (s.active ≡ 0) ⊎ (s.active ≡ s.last_epoch) → (goroutine s g).epoch ≡ s.last_epoch
        which (inl none) end = let e = eqb-true s.active 0 none in let b = behind.0 in absurd (omega arith)
        which (inr same) (inl none) = let b = behind.0 in absurd (omega arith)
        which (inr same) (inr end) = eqb-true (goroutine s g).epoch s.active same ∙ end

bears_whole : (code : Code) (function g : ℕ) (s : State) → IsWhole s → IsWhole (bears code function g s)
bears_whole code function g s whole = gains s.goroutines s.workers s.channels s.mutexes s.active s.last_epoch whole _ refl refl

spawns_whole : (code : Code) (settings : Settings) (w g function : ℕ) (s : State) → IsWhole s → (worker s w).runs ≡ Some g → (room : Bool) →
    IsWhole (if room then passes code settings w g 1 (bears code function g s) else faults 2 w g s)
spawns_whole code settings w g function s whole runs true = passes_whole code settings w g 1 (bears code function g s) (bears_whole code function g s whole) runs
spawns_whole code settings w g function s whole runs false = off s w g (turned Faulted (goroutine s g)) (left (worker s w)) whole runs refl refl

comes_whole : (code : Code) (settings : Settings) (w g : ℕ) (s : State) → IsWhole s → (worker s w).runs ≡ Some g → (outcome : Outcome) → MovesBy g s outcome → IsWhole (comes_to code settings w g outcome s)
comes_whole code settings w g s whole runs (Meets unlocks effect left) moves =
    subst (λ (t : State). IsWhole (meets code settings w g effect t)) (sym moves.alone) (meets_whole code settings w g s left.channels left.mutexes whole runs effect moves.balance)
comes_whole code settings w g s whole runs (Spawns function) moves = spawns_whole code settings w g function s whole runs (nat_lt (births s) settings.cells)
comes_whole code settings w g s whole runs Stays moves = whole

operates_whole : (code : Code) (settings : Settings) (w g : ℕ) (instruction : Instruction) (s : State) → IsWhole s → (worker s w).runs ≡ Some g → IsWhole (operates code settings w g instruction s)
unfolding operates
operates_whole code settings w g instruction s whole runs =
    comes_whole code settings w g s whole runs (outcome_of code g (operation_of instruction) s) (outcome_moves code g (operation_of instruction) s)

acts_whole : (code : Code) (settings : Settings) (w g : ℕ) (s : State) → IsWhole s → (worker s w).runs ≡ Some g → (granted : Bool) →
    IsWhole (if granted then passes code settings w g 1 (with_goroutine g (record (goroutine s g) { granted = false }) s) else operates code settings w g (next_instruction code s g) s)
acts_whole code settings w g s whole runs true = resumes_whole code settings w g s whole runs
acts_whole code settings w g s whole runs false = operates_whole code settings w g (next_instruction code s g) s whole runs

-- a goroutine that is behind, and one that isn't
pub behind_parts : (active : ℕ) (g : Goroutine) → is_behind active g ≡ true → (is_live g ≡ true) × (g.epoch < active)
behind_parts active g e = let parts = and_parts (is_live g) (nat_lt g.epoch active) e in (parts.0, ltb-true g.epoch active parts.1)

pub behind_from : (active : ℕ) (g : Goroutine) → is_live g ≡ true → g.epoch < active → is_behind active g ≡ true
behind_from active g live below = and_from (is_live g) (nat_lt g.epoch active) live (lt-ltb g.epoch active below)

-- while a profile is active, its epoch is the last
pub active_last : (s : State) → IsWhole s → 0 < s.active → s.active ≡ s.last_epoch
active_last s whole some = which whole.is_last
  where
    which : (s.active ≡ 0) ⊎ (s.active ≡ s.last_epoch) → s.active ≡ s.last_epoch
    which (inl none) = absurd (omega arith)
    which (inr same) = same

records_whole : (g : ℕ) (s : State) → IsWhole s → 0 < s.active → is_behind s.active (goroutine s g) ≡ true → IsWhole (with_goroutine g (recorded s.active (goroutine s g)) s)
records_whole g s whole some behind =
    let parts = behind_parts s.active (goroutine s g) behind in
    let end = active_last s whole some in
    frees s.goroutines s.workers s.channels s.mutexes s.active s.last_epoch whole g (recorded s.active (goroutine s g))
    (λ w e. let same = running_last s w g whole (whole.on_worker w g e) in let below = parts.1 in omega arith)
    (whole.waits g) (λ live. inl end)

-- no profile is active where one is asked for
pub none_active : (settings : Settings) (s : State) → asked settings s ≡ true → s.active ≡ 0
unfolding asked
none_active settings s e = eqb-true s.active 0 ((and_parts (s.active == 0) _ e).0)

opens_whole : (settings : Settings) (epoch room : ℕ) (s : State) → IsWhole s → MayOpen settings s epoch room → Whole s.goroutines s.workers s.channels s.mutexes epoch epoch
opens_whole settings epoch room s whole may = record {
  on_worker = whole.on_worker;
  waits = whole.waits;
  epochs = λ g live. behind g (whole.epochs g live);
  is_last = inr refl;
}
  where
    behind : (g : ℕ) → ((goroutine s g).epoch ≡ s.last_epoch) ⊎ Behind s.active s.last_epoch (goroutine s g) → ((goroutine s g).epoch ≡ epoch) ⊎ Behind epoch epoch (goroutine s g)
    behind g (inl same) = inr (let e = may.next_epoch in omega arith, let e = may.next_epoch in omega arith, none_counted (λ x. is_running x.status) nobody s.goroutines refl may.nobody_runs g)
    behind g (inr b) = let none = none_active settings s may.is_asked in let some = b.0 in absurd (omega arith)

closes_whole : (epoch : ℕ) (s : State) → IsWhole s → MayClose s epoch → Whole s.goroutines s.workers s.channels s.mutexes 0 s.last_epoch
closes_whole epoch s whole may = record {
  on_worker = whole.on_worker;
  waits = whole.waits;
  epochs = λ g live. all g live (whole.epochs g live);
  is_last = inl refl;
}
  where
    all : (g : ℕ) → is_live (goroutine s g) ≡ true → ((goroutine s g).epoch ≡ s.last_epoch) ⊎ Behind s.active s.last_epoch (goroutine s g) →
        ((goroutine s g).epoch ≡ s.last_epoch) ⊎ Behind 0 s.last_epoch (goroutine s g)
    all g live (inl same) = inl same
    all g live (inr b) =
        let end = active_last s whole may.is_active in
        let below : (goroutine s g).epoch < s.active = let e = b.1 in omega arith in
        absurd (true≢false (sym (behind_from s.active (goroutine s g) live below) ∙ none_counted (is_behind s.active) nobody s.goroutines refl may.all_recorded g))

pub step_whole : (code : Code) (settings : Settings) (s : State) (entry : Entry) → IsWhole s → May code settings s entry → IsWhole (after code settings s entry)
unfolding after
step_whole code settings s (Start w g) whole may = starts_whole w g s whole may.runnable may.recorded
step_whole code settings s (Run w g n) whole may = passes_whole code settings w g n s whole may.runs
step_whole code settings s (Op w g) whole may = acts_whole code settings w g s whole may.runs (goroutine s g).granted
step_whole code settings s (Tick w g) whole may = keeps_running s.goroutines s.workers s.channels s.mutexes s.active s.last_epoch whole w (ticked (worker s w)) refl
step_whole code settings s (Park w g) whole may = off s w g (turned Runnable (goroutine s g)) (left (worker s w)) whole may.runs refl refl
step_whole code settings s (Open epoch room) whole may = opens_whole settings epoch room s whole may
step_whole code settings s (Refuse room n) whole may = whole
step_whole code settings s (Record actor g) whole may = records_whole g s whole may.is_active may.unrecorded
step_whole code settings s (Close epoch) whole may = closes_whole epoch s whole may
