-- What the choice may choose is legal.
use Rattle.std.proofs.Common.{◌≡◌, ◌⊎◌, inl, inr, ◌+◌, ◌%◌, ◌<◌, ◌≤◌, ℕ, Bool, true, false, not, ◌&&◌, ◌||◌, ◌==◌, cond, List, [], ◌∷◌, ◌++◌, map, length, get_or, count_by, position, zero, suc, Option, Some, None, is_none, refl, sym, ap, ◌∙◌, subst, arith, if◌then◌else◌, nat_lt, nat_le, true≢false}
use Rattle.std.specs.List.{All, position_or_len}
use Rattle.std.proofs.lemmas.Bool.{cases_eq, and_parts, and_from, or_parts, or_left, or_right, ltb-true, ltb-false, leb-true, leb-false, eqb-true, eq-eqb, lt-ltb}
use Rattle.std.proofs.lemmas.List.Elements.{All-nil, All-cons, All-head, All-tail, All-get_or}
use Rattle.std.proofs.lemmas.List.Quantifiers.{position-Some}
use Rattle.std.proofs.lemmas.List.Sums.{sum_by-cons, fails_before_first}
use Rattle.gp_isa.specs.Trace.{is_local}
use Rattle.gp_journal.specs.declared.entry.Entry.{Entry}
use Rattle.gp_journal.specs.declared.entry.Entry.TheVariants.{Start, Run, Op, Tick, Park, Open, Refuse, Record}
use Rattle.gp_journal.specs.declared.goroutine.Status.{Status}
use Rattle.gp_journal.specs.declared.goroutine.Status.TheVariants.{Runnable, Running, Blocked, Faulted, Dead}
use Rattle.gp_journal.specs.declared.settings.Settings.{Settings}
use Rattle.gp_journal.specs.Settings.{AreInRange, quantum}
use Rattle.gp_journal.specs.State.{Code, State, nobody, goroutine, worker, is_runnable, is_live, is_idle, is_behind, live, running}
use Rattle.gp_journal.specs.Due.{asked, over, due, extent, next_instruction}
use Rattle.gp_journal.specs.May.{May, is_recorded}
use Rattle.gp_journal.specs.Standing.{first_behind}
use Rattle.gp_journal.specs.Reached.{IsReached}
use Rattle.gp_journal.specs.Standing.{times}
use Rattle.gp_journal.specs.Standing.{head_of}
use Rattle.gp_journal.proofs.Lemmas.{times-cons, one_at, live_status, is_whole, is_kept, holds_runnable, behind_parts, behind_from, active_last, Behind, some_same}
use Rattle.gp_sim.specs.Choice.{goes_on_with, idle_action, action_of_worker, worker_action, goes_on, answers, profiler_action, with_action, actions_from, actions, acts_of, chosen, number}
use Rattle.gp_sim.specs.ChoiceLaw.{MayAct}
use Rattle.gp_sim.specs.declared.numbers.Act.{Act}
use Rattle.gp_sim.specs.declared.numbers.Act.TheVariants.{Make, Read}
use Rattle.gp_sim.specs.declared.numbers.Turn.{Turn}

-- who stands at the head of a queue stands in it
pub head_in : (queue : List ℕ) (g : ℕ) → head_of queue ≡ Some g → 1 ≤ times g queue
head_in [] g e = absurd (cc)
head_in (h ∷ rest) g e =
    subst (λ n. 1 ≤ times n (h ∷ rest)) (some_same e) (omega (arith, times-cons h h rest, one_at h))

runnable_by : (status : Status) → 1 ≤ (if is_runnable status then 1 else 0) → status ≡ Runnable
runnable_by Runnable one = refl
runnable_by (Running w) one = absurd (omega arith)
runnable_by Blocked one = absurd (omega arith)
runnable_by Faulted one = absurd (omega arith)
runnable_by Dead one = absurd (omega arith)

-- where no place passes a test, none is counted
pub count_none : {X : Type 0} (p : X → Bool) (d : X) (xs : List X) → ((k : ℕ) → k < length xs → p (get_or xs k d) ≡ false) → count_by p xs ≡ 0
count_none p d [] fails = refl
count_none p d (x ∷ xs) fails =
    counted (p x) (fails 0 (omega arith)) (sum_by-cons (λ y. cond (p y) 1 0) x xs) (count_none p d xs (λ k within. fails (suc k) (omega arith)))
  where
    counted : (b : Bool) → b ≡ false → count_by p (x ∷ xs) ≡ cond b 1 0 + count_by p xs → count_by p xs ≡ 0 → count_by p (x ∷ xs) ≡ 0
    counted true e split rest = absurd (cc)
    counted false e split rest = omega arith

no_first : {X : Type 0} (p : X → Bool) (xs : List X) (b : Bool) → (if b then Some (position_or_len p xs) else None) ≡ None → b ≡ false
no_first p xs true e = absurd (cc)
no_first p xs false e = refl

pub none_first : {X : Type 0} (p : X → Bool) (d : X) (xs : List X) → position p xs ≡ None → count_by p xs ≡ 0
none_first p d xs e =
    let past = ltb-false (position_or_len p xs) (length xs) (no_first p xs (nat_lt (position_or_len p xs) (length xs)) e) in
    count_none p d xs (λ k within. fails_before_first p xs k d (omega arith))

-- An element of a list that is chosen is one of the list.
pub chosen_among : (P : Act → Type 0) (settings : Settings) (taken : ℕ) (acts : List Act) (turn : Turn) → All P acts → chosen settings taken acts ≡ Some turn → P turn.act
chosen_among P settings taken [] turn all e = absurd (cc)
chosen_among P settings taken (only ∷ []) turn all e = subst (λ (t : Turn). P t.act) (turn_same e) (All-head P only [] all)
  where
    turn_same : {a b : Turn} → Some a ≡ Some b → a ≡ b
    turn_same e = cc
chosen_among P settings taken (one ∷ other ∷ more) turn all e =
    let among = one ∷ other ∷ more in
    subst (λ (t : Turn). P t.act) (turn_same e) (All-get_or P among (number settings taken % length among) one (omega arith) all)
  where
    turn_same : {a b : Turn} → Some a ≡ Some b → a ≡ b
    turn_same e = cc

-- where nothing can be chosen there is nothing
pub none_chosen : (settings : Settings) (taken : ℕ) (acts : List Act) → chosen settings taken acts ≡ None → acts ≡ []
none_chosen settings taken [] e = refl
none_chosen settings taken (only ∷ []) e = absurd (cc)
none_chosen settings taken (one ∷ other ∷ more) e = absurd (cc)

-- and where there are no acts there are no entries
pub none_made : (entries : List Entry) (reads : Bool) → acts_of entries reads ≡ [] → entries ≡ []
none_made [] reads e = refl
none_made (entry ∷ entries) reads e = absurd (cc)

-- what is done is legal where each entry is
module _ (code : Code) (settings : Settings) (s : State) where
  made_may : (entries : List Entry) (rest : List Act) → All (May code settings s) entries → All (MayAct code settings s) rest → All (MayAct code settings s) (map Make entries ++ rest)
  made_may [] rest all them = them
  made_may (entry ∷ entries) rest all them =
      All-cons (MayAct code settings s) (Make entry) (map Make entries ++ rest) (All-head (May code settings s) entry entries all) (made_may entries rest (All-tail (May code settings s) entry entries all) them)

  acts_may : (entries : List Entry) (reads : Bool) → All (May code settings s) entries → All (MayAct code settings s) (acts_of entries reads)
  acts_may [] reads all = All-nil (MayAct code settings s)
  acts_may (entry ∷ entries) reads all = made_may (entry ∷ entries) (if reads then Read ∷ [] else []) all (reader reads)
    where
      reader : (reads : Bool) → All (MayAct code settings s) (if reads then Read ∷ [] else [])
      reader true = All-cons (MayAct code settings s) Read [] tt (All-nil (MayAct code settings s))
      reader false = All-nil (MayAct code settings s)

-- the due entry by its tests
abbrev by_tests : Bool → Bool → Bool → ℕ → ℕ → ℕ → Entry
by_tests tick stop shared w g n = if tick then Tick w g else if stop then Park w g else if shared then Op w g else Run w g n

module _ (code : Code) (settings : Settings) (s : State) where
  -- an action is legal where there is one
  abbrev IfMay : Option Entry → Type 0
  IfMay None = Unit {0}
  IfMay (Some entry) = May code settings s entry

  with_may : (action : Option Entry) (entries : List Entry) → IfMay action → All (May code settings s) entries → All (May code settings s) (with_action action entries)
  with_may None entries may all = all
  with_may (Some entry) entries may all = All-cons (May code settings s) entry entries may all

  tests_may : (w g : ℕ) → (worker s w).runs ≡ Some g → (tick stop shared : Bool) (n : ℕ) → due code settings s w g ≡ by_tests tick stop shared w g n → May code settings s (by_tests tick stop shared w g n)
  tests_may w g runs true stop shared n e = record { runs = runs; is_next = e }
  tests_may w g runs false true shared n e = record { runs = runs; is_next = e }
  tests_may w g runs false false true n e = record { runs = runs; is_next = e }
  tests_may w g runs false false false n e = record { runs = runs; is_next = e }

  due_tests : (w g : ℕ) → due code settings s w g ≡ by_tests (worker s w).tick (asked settings s || over settings s || ((worker s w).slice == quantum)) (not (is_local (next_instruction code s g))) w g (extent code settings s w g)
  unfolding due
  due_tests w g = refl

  -- the due entry of a worker that runs
  pub due_may : (w g : ℕ) → (worker s w).runs ≡ Some g → May code settings s (due code settings s w g)
  due_may w g runs = subst (May code settings s) (sym (due_tests w g))
      (tests_may w g runs (worker s w).tick (asked settings s || over settings s || ((worker s w).slice == quantum)) (not (is_local (next_instruction code s g))) (extent code settings s w g) (due_tests w g))

  -- While a profile is active the profiler records whom it finds, and else closes it.
  goes_on_may : 0 < s.active → (found : Option ℕ) → first_behind s.active s.goroutines ≡ found → May code settings s (goes_on settings s found)
  goes_on_may some (Some g) e = record {
    is_active = some;
    unrecorded = (position-Some (is_behind s.active) s.goroutines g nobody e).1;
    recorder = or_left (settings.workers == settings.workers) (is_idle s settings.workers) (eq-eqb settings.workers settings.workers refl);
  }
  goes_on_may some None e = record { is_active = some; epoch_given = refl; all_recorded = none_first (is_behind s.active) nobody s.goroutines e }

  answer_may : asked settings s ≡ true → running s ≡ 0 → (few : Bool) → nat_le (live s) settings.room ≡ few → May code settings s (if few then Open (s.last_epoch + 1) settings.room else Refuse settings.room (live s))
  answer_may is_asked nobody_runs true e =
      record { is_asked = is_asked; nobody_runs = nobody_runs; room_given = refl; fits = leb-true (live s) settings.room e; next_epoch = refl }
  answer_may is_asked nobody_runs false e =
      record { is_asked = is_asked; nobody_runs = nobody_runs; room_given = refl; number_live = refl; too_many = leb-false (live s) settings.room e }

  profiler_may : IfMay (profiler_action settings s)
  profiler_may = by (nat_lt 0 s.active) refl
    where
      idle : (b : Bool) → (asked settings s && (running s == 0)) ≡ b → IfMay (if b then Some (answers settings s) else None)
      idle true e =
          let parts = and_parts (asked settings s) (running s == 0) e in
          answer_may parts.0 (eqb-true (running s) 0 parts.1) (nat_le (live s) settings.room) refl
      idle false e = tt

      by : (b : Bool) → nat_lt 0 s.active ≡ b → IfMay (if b then Some (goes_on settings s (first_behind s.active s.goroutines)) else if asked settings s && (running s == 0) then Some (answers settings s) else None)
      by true e = goes_on_may (ltb-true 0 s.active e) (first_behind s.active s.goroutines) refl
      by false e = idle (asked settings s && (running s == 0)) refl

  module _ (reached : IsReached code settings s) where
    -- who stands at the head of the queue is runnable
    pub head_runnable : (g : ℕ) → head_of s.queue ≡ Some g → (goroutine s g).status ≡ Runnable
    head_runnable g e = runnable_by (goroutine s g).status (subst (λ n. 1 ≤ n) (holds_runnable code settings s reached g) (head_in s.queue g e))

    -- a live goroutine that isn't behind is recorded
    pub recorded_unless : (g : ℕ) → is_live (goroutine s g) ≡ true → is_behind s.active (goroutine s g) ≡ false → is_recorded s g ≡ true
    recorded_unless g live not_behind = at (cases_eq s.active 0)
      where
        at : (s.active ≡ 0) ⊎ (s.active ≡ 0 → ⊥) → is_recorded s g ≡ true
        at (inl none) = or_left (s.active == 0) ((goroutine s g).epoch == s.active) (eq-eqb s.active 0 none)
        at (inr active) = which ((is_whole code settings s reached).epochs g live)
          where
            is_last : s.active ≡ s.last_epoch
            is_last = active_last s (is_whole code settings s reached) (omega arith)

            which : ((goroutine s g).epoch ≡ s.last_epoch) ⊎ Behind s.active s.last_epoch (goroutine s g) → is_recorded s g ≡ true
            which (inl same) = or_right (s.active == 0) ((goroutine s g).epoch == s.active) (eq-eqb (goroutine s g).epoch s.active (same ∙ sym is_last))
            which (inr behind) =
                let below : (goroutine s g).epoch < s.active = let e = behind.1 in omega (arith, is_last) in
                absurd (true≢false (sym (behind_from s.active (goroutine s g) live below) ∙ not_behind))

    -- An idle worker may go on with the head of the queue.
    head_may : (w : ℕ) → is_idle s w ≡ true → asked settings s ≡ false → over settings s ≡ false → (head : Option ℕ) → head_of s.queue ≡ head → IfMay (goes_on_with s w head)
    head_may w idle none_asked not_over None e = tt
    head_may w idle none_asked not_over (Some g) e = which (is_behind s.active (goroutine s g)) refl
      where
        which : (b : Bool) → is_behind s.active (goroutine s g) ≡ b → May code settings s (if b then Record w g else Start w g)
        which true behind = record {
          is_active = let below = (behind_parts s.active (goroutine s g) behind).1 in omega arith;
          unrecorded = behind;
          recorder = or_right (w == settings.workers) (is_idle s w) idle;
        }
        which false not_behind =
            let runnable = head_runnable g e in
            record {
              idle = idle;
              runnable = runnable;
              none_asked = none_asked;
              not_over = not_over;
              recorded = recorded_unless g (live_status (goroutine s g) runnable refl) not_behind;
            }

    idle_may : (w : ℕ) → is_idle s w ≡ true → IfMay (idle_action settings s w)
    idle_may w idle = by (asked settings s || over settings s) refl
      where
        by : (b : Bool) → (asked settings s || over settings s) ≡ b → IfMay (if b then None else goes_on_with s w (head_of s.queue))
        by true e = tt
        by false e =
            let parts = or_parts (asked settings s) (over settings s) e in
            head_may w idle parts.0 parts.1 (head_of s.queue) refl

    worker_may : (w : ℕ) → w < length s.workers → IfMay (worker_action code settings s w)
    worker_may w within = by (worker s w).runs refl
      where
        by : (runs : Option ℕ) → (worker s w).runs ≡ runs → IfMay (action_of_worker code settings s w runs)
        by (Some g) e = due_may w g e
        by None e = idle_may w (and_from (nat_lt w (length s.workers)) (is_none (worker s w).runs) (lt-ltb w (length s.workers) within) (ap is_none e))

    from_may : (w n : ℕ) → w + n ≡ length s.workers → All (May code settings s) (actions_from code settings s w n)
    from_may w zero e = with_may (profiler_action settings s) [] profiler_may (All-nil (May code settings s))
    from_may w (suc n) e =
        with_may (worker_action code settings s w) (actions_from code settings s (suc w) n) (worker_may w (omega arith)) (from_may (suc w) n (omega arith))

    -- Each action is legal.
    pub actions_may : AreInRange settings → All (May code settings s) (actions code settings s)
    unfolding actions
    actions_may range = from_may 0 settings.workers (let many = (is_kept code settings s reached range).numbered.number in omega arith)

    -- and so is what the one that is chosen does
    pub chosen_may : AreInRange settings → (reads : Bool) (taken : ℕ) (turn : Turn) → chosen settings taken (acts_of (actions code settings s) reads) ≡ Some turn → MayAct code settings s turn.act
    chosen_may range reads taken turn e =
        chosen_among (MayAct code settings s) settings taken (acts_of (actions code settings s) reads) turn (acts_may code settings s (actions code settings s) reads (actions_may range)) e
