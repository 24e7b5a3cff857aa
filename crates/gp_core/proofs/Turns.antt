-- How goroutines turn with an entry, one by one: the entry's own, and the others.
use Rattle.std.proofs.Common.{◌≡◌, ◌⊎◌, ℕ, ◌+◌, ◌<◌, ◌≤◌, Bool, true, false, List, [], ◌∷◌, ◌++◌, length, get_or, set, Some, refl, sym, ap, ◌∙◌, subst, inl, inr, arith, get_or-set_same, get_or-set_other, length-set, if◌then◌else◌}
use Rattle.std.proofs.lemmas.List.{get_or_past, get_or_push, get_or_append_left, length_push}
use Rattle.std.proofs.lemmas.Bool.{cases_eq, cases_lt}
use Rattle.gp_journal.specs.declared.entry.Entry.{Entry}
use Rattle.gp_journal.specs.declared.entry.Entry.TheVariants.{Start, Run, Op, Tick, Park, Record}
use Rattle.gp_journal.specs.declared.goroutine.Goroutine.{Goroutine}
use Rattle.gp_journal.specs.declared.goroutine.Status.TheVariants.{Runnable, Running, Blocked, Faulted, Dead}
use Rattle.gp_journal.specs.declared.settings.Settings.{Settings}
use Rattle.gp_journal.specs.State.{Code, State, nobody, goroutine, worker, is_live, is_running, births}
use Rattle.gp_journal.specs.Effect.{turned, recorded, passed, is_over_after, unmarked, blocked_at, woken_at, child_of, acts, after}
use Rattle.gp_journal.specs.Answer.{op_answer}
use Rattle.gp_journal.proofs.Lemmas.{IsWhole, acts_told, changed, live_within, live_status}
use Rattle.gp_core.specs.Stepped.{points_by, points_of}

-- A goroutine stays as it was, but for marks and clocks, and may be woken.
pub record Stays (x y : Goroutine) : Type 0 where
  pub start : y.start ≡ x.start
  pub inherited : y.set ≡ x.set
  pub count : y.count ≡ x.count
  pub epoch : y.epoch ≡ x.epoch
  pub lives : is_live y ≡ is_live x
  pub runs : is_running y.status ≡ is_running x.status
  pub on : (v : ℕ) → y.status ≡ Running v → x.status ≡ Running v

-- One that is born with an entry.
pub record IsNewborn (last : ℕ) (y : Goroutine) : Type 0 where
  pub is_runnable : y.status ≡ Runnable
  pub none_passed : y.count ≡ 0
  pub last_epoch : y.epoch ≡ last

-- What becomes of number k: it stays, or is born.
abbrev pub Turns : List Goroutine → List Goroutine → ℕ → ℕ → Type 0
Turns gs hs last k =
    (Stays (get_or gs k nobody) (get_or hs k nobody) × (k < length hs → k < length gs))
    ⊎ ((length gs ≤ k) × IsNewborn last (get_or hs k nobody))

-- All but g turn so.
pub record OthersTurn (gs hs : List Goroutine) (last g : ℕ) : Type 0 where
  pub each : (k : ℕ) → (k ≡ g → ⊥) → Turns gs hs last k
  pub grows : length gs ≤ length hs

pub stays_self : (x : Goroutine) → Stays x x
stays_self x = record { start = refl; inherited = refl; count = refl; epoch = refl; lives = refl; runs = refl; on = λ v e. e }

others_same : (gs : List Goroutine) (last g : ℕ) → OthersTurn gs gs last g
others_same gs last g = record { each = λ k other. inl (stays_self (get_or gs k nobody), λ within. within); grows = omega arith }

-- g itself may change
others_set : (gs hs : List Goroutine) (last g : ℕ) (y : Goroutine) → OthersTurn gs hs last g → OthersTurn gs (set hs g y) last g
others_set gs hs last g y turn = record {
  each = λ k other. at k (get_or-set_other hs g k y nobody other) (turn.each k other);
  grows = let a = turn.grows in let b = length-set hs g y in omega arith;
}
  where
    at : (k : ℕ) → get_or (set hs g y) k nobody ≡ get_or hs k nobody → Turns gs hs last k → Turns gs (set hs g y) last k
    at k same (inl stays) = inl (subst (Stays (get_or gs k nobody)) (sym same) stays.0, λ within. stays.1 (let b = length-set hs g y in omega arith))
    at k same (inr born) = inr (born.0, subst (IsNewborn last) (sym same) born.1)

woken_stays : (clock : ℕ) (x : Goroutine) → x.status ≡ Blocked → Stays x (woken_at clock x)
woken_stays clock x blocked = record {
  start = refl;
  inherited = refl;
  count = refl;
  epoch = refl;
  lives = sym (live_status x blocked refl);
  runs = sym (ap is_running blocked);
  on = λ v e. absurd (cc);
}

-- another is woken
others_woken : (gs : List Goroutine) (last g h clock : ℕ) → (get_or gs h nobody).status ≡ Blocked → OthersTurn gs (set gs h (woken_at clock (get_or gs h nobody))) last g
others_woken gs last g h clock blocked = record {
  each = λ k other. inl (
    changed (λ n x. Stays (get_or gs n nobody) x) nobody gs h (woken_at clock (get_or gs h nobody)) (woken_stays clock (get_or gs h nobody) blocked) (λ n. stays_self (get_or gs n nobody)) k,
    λ within. let b = length-set gs h (woken_at clock (get_or gs h nobody)) in omega arith,
  );
  grows = let b = length-set gs h (woken_at clock (get_or gs h nobody)) in omega arith;
}

-- another is born
others_born : (gs : List Goroutine) (last g : ℕ) (y : Goroutine) → IsNewborn last y → OthersTurn gs (gs ++ y ∷ []) last g
others_born gs last g y newborn = record {
  each = λ k other. at k (cases_lt k (length gs)) (cases_eq k (length gs));
  grows = omega (arith, length_push gs y);
}
  where
    at : (k : ℕ) → (k < length gs) ⊎ (length gs ≤ k) → (k ≡ length gs) ⊎ (k ≡ length gs → ⊥) → Turns gs (gs ++ y ∷ []) last k
    at k (inl within) end = inl (subst (Stays (get_or gs k nobody)) (sym (get_or_append_left gs (y ∷ []) nobody k within)) (stays_self (get_or gs k nobody)), λ inside. within)
    at k (inr past) (inl same) = inr (past, subst (IsNewborn last) (sym (get_or_push gs y nobody k (sym same))) newborn)
    at k (inr past) (inr other) =
        let beyond : length (gs ++ y ∷ []) ≤ k = omega (arith, length_push gs y) in
        inl (rw (get_or_past gs k nobody past, get_or_past (gs ++ y ∷ []) k nobody beyond) (stays_self nobody), λ inside. absurd (omega arith))

-- What becomes of the entry's own goroutine, where w runs it: it passes n points of its trace, keeps its epoch, and runs on
-- w or nowhere.
pub record GoesOnBy (w n : ℕ) (x y : Goroutine) : Type 0 where
  pub start : y.start ≡ x.start
  pub inherited : y.set ≡ x.set
  pub epoch : y.epoch ≡ x.epoch
  pub count : y.count ≡ x.count + n
  pub on : (v : ℕ) → y.status ≡ Running v → v ≡ w

-- one that runs on w, with other marks
record Likewise (w : ℕ) (x z : Goroutine) : Type 0 where
  start : z.start ≡ x.start
  inherited : z.set ≡ x.set
  epoch : z.epoch ≡ x.epoch
  count : z.count ≡ x.count
  status : z.status ≡ Running w

passed_on : (code : Code) (w n : ℕ) (x z : Goroutine) → Likewise w x z → GoesOnBy w n x (passed code n z)
passed_on code w n x z like = record { start = like.start; inherited = like.inherited; epoch = like.epoch; count = let e = like.count in omega arith; on = at (is_over_after code n z) }
  where
    at : (ended : Bool) (v : ℕ) → (if ended then Dead else z.status) ≡ Running v → v ≡ w
    at true v e = absurd (cc)
    at false v e = let same : Running v ≡ Running w = sym e ∙ like.status in cc

-- What an entry with goroutine g makes of all.
pub record TurnsAll (s t : State) (g : ℕ) : Type 0 where
  pub others : OthersTurn s.goroutines t.goroutines s.last_epoch g
  pub active : t.active ≡ s.active
  pub last : t.last_epoch ≡ s.last_epoch

pub record TurnsDue (s t : State) (w g n : ℕ) : Type 0 where
  pub all : TurnsAll s t g
  pub own : GoesOnBy w n (goroutine s g) (goroutine t g)

module _ (code : Code) (settings : Settings) (s : State) (w g : ℕ) (whole : IsWhole s) (runs : (worker s w).runs ≡ Some g) where
  gs : List Goroutine
  gs = s.goroutines

  its_status : (goroutine s g).status ≡ Running w
  its_status = whole.on_worker w g runs

  within : g < length s.goroutines
  within = live_within s.goroutines g (live_status (goroutine s g) its_status refl)

  -- in a list in which g is as it was, or likewise, g passes n points
  passes_on : (hs : List Goroutine) (n : ℕ) → g < length hs → Likewise w (goroutine s g) (get_or hs g nobody) →
      GoesOnBy w n (goroutine s g) (get_or (set hs g (passed code n (get_or hs g nobody))) g nobody)
  passes_on hs n inside like =
      subst (GoesOnBy w n (goroutine s g)) (sym (get_or-set_same hs g (passed code n (get_or hs g nobody)) nobody inside)) (passed_on code w n (goroutine s g) (get_or hs g nobody) like)

  itself : Likewise w (goroutine s g) (goroutine s g)
  itself = record { start = refl; inherited = refl; epoch = refl; count = refl; status = its_status }

  -- it leaves w
  off : (y : Goroutine) → y.start ≡ (goroutine s g).start → y.set ≡ (goroutine s g).set → y.epoch ≡ (goroutine s g).epoch → y.count ≡ (goroutine s g).count →
      is_running y.status ≡ false → GoesOnBy w 0 (goroutine s g) (get_or (set s.goroutines g y) g nobody)
  off y start inherited epoch count none = subst (GoesOnBy w 0 (goroutine s g)) (sym (get_or-set_same s.goroutines g y nobody within))
      (record { start = start; inherited = inherited; epoch = epoch; count = omega arith; on = λ v e. let clash : true ≡ false = sym (ap is_running e) ∙ none in absurd (cc) })

  stays_on : GoesOnBy w 0 (goroutine s g) (goroutine s g)
  stays_on = record { start = refl; inherited = refl; epoch = refl; count = omega arith; on = λ v e. let same : Running v ≡ Running w = sym e ∙ its_status in cc }

  marked : Likewise w (goroutine s g) (get_or (set s.goroutines g (unmarked (goroutine s g))) g nobody)
  marked = subst (Likewise w (goroutine s g)) (sym (get_or-set_same s.goroutines g (unmarked (goroutine s g)) nobody within)) (record { start = refl; inherited = refl; epoch = refl; count = refl; status = its_status })

  beside : (h : ℕ) → (goroutine s h).status ≡ Blocked → Likewise w (goroutine s g) (get_or (set s.goroutines h (woken_at s.clock (goroutine s h))) g nobody)
  beside h blocked =
      subst (Likewise w (goroutine s g))
      (sym (get_or-set_other s.goroutines h g (woken_at s.clock (goroutine s h)) nobody (λ same. let clash : Running w ≡ Blocked = sym its_status ∙ ap (λ n. (goroutine s n).status) same ∙ blocked in absurd (cc))))
      itself

  before : (y : Goroutine) → Likewise w (goroutine s g) (get_or (s.goroutines ++ y ∷ []) g nobody)
  before y = subst (Likewise w (goroutine s g)) (sym (get_or_append_left s.goroutines (y ∷ []) nobody g within)) itself

  op_turns : TurnsDue s (acts code settings w g s) w g (points_by (op_answer code settings g s))
  op_turns = acts_told code settings w g s (λ t answer. TurnsDue s t w g (points_by answer)) whole (record {
    stays = record { all = record { others = others_same s.goroutines s.last_epoch g; active = refl; last = refl }; own = stays_on };
    resumed = record {
      all = record { others = others_set s.goroutines _ s.last_epoch g _ (others_set s.goroutines s.goroutines s.last_epoch g (unmarked (goroutine s g)) (others_same s.goroutines s.last_epoch g)); active = refl; last = refl };
      own = passes_on (set s.goroutines g (unmarked (goroutine s g))) 1 (let b = length-set s.goroutines g (unmarked (goroutine s g)) in let c = within in omega arith) marked;
    };
    passed = λ cs ms. record {
      all = record { others = others_set s.goroutines s.goroutines s.last_epoch g _ (others_same s.goroutines s.last_epoch g); active = refl; last = refl };
      own = passes_on s.goroutines 1 within itself;
    };
    woke = λ cs ms h since contended blocked. record {
      all = record { others = others_set s.goroutines _ s.last_epoch g _ (others_woken s.goroutines s.last_epoch g h s.clock blocked); active = refl; last = refl };
      own = passes_on (set s.goroutines h (woken_at s.clock (goroutine s h))) 1 (let b = length-set s.goroutines h (woken_at s.clock (goroutine s h)) in let c = within in omega arith) (beside h blocked);
    };
    blocked = λ cs ms. record {
      all = record { others = others_set s.goroutines s.goroutines s.last_epoch g _ (others_same s.goroutines s.last_epoch g); active = refl; last = refl };
      own = off (blocked_at s.clock (goroutine s g)) refl refl refl refl refl;
    };
    faulted = λ cause cs ms some. record {
      all = record { others = others_set s.goroutines s.goroutines s.last_epoch g _ (others_same s.goroutines s.last_epoch g); active = refl; last = refl };
      own = off (turned Faulted (goroutine s g)) refl refl refl refl refl;
    };
    bore = λ function room. record {
      all = record {
        others = others_set s.goroutines _ s.last_epoch g _ (others_born s.goroutines s.last_epoch g (child_of code function g s) (record { is_runnable = refl; none_passed = refl; last_epoch = refl }));
        active = refl;
        last = refl;
      };
      own = passes_on (s.goroutines ++ child_of code function g s ∷ []) 1 (let b = length_push s.goroutines (child_of code function g s) in let c = within in omega arith) (before (child_of code function g s));
    };
  })

-- The entries that may be due on w.
abbrev pub IsOf : ℕ → ℕ → Entry → Type 0
IsOf w g entry = (entry ≡ Tick w g) ⊎ ((entry ≡ Park w g) ⊎ ((entry ≡ Op w g) ⊎ ((n : ℕ) × (entry ≡ Run w g n))))

-- Each of them turns all goroutines so.
pub due_turns : (code : Code) (settings : Settings) (s : State) (w g : ℕ) (entry : Entry) → IsWhole s → (worker s w).runs ≡ Some g → IsOf w g entry →
    TurnsDue s (after code settings s entry) w g (points_of code settings s entry)
unfolding after
due_turns code settings s w g entry whole runs (inl tick) = rw tick (record { all = record { others = others_same s.goroutines s.last_epoch g; active = refl; last = refl }; own = stays_on code settings s w g whole runs })
due_turns code settings s w g entry whole runs (inr (inl park)) = rw park (record {
  all = record { others = others_set s.goroutines s.goroutines s.last_epoch g _ (others_same s.goroutines s.last_epoch g); active = refl; last = refl };
  own = off code settings s w g whole runs (turned Runnable (goroutine s g)) refl refl refl refl refl;
})
due_turns code settings s w g entry whole runs (inr (inr (inl op))) =
    let turn = op_turns code settings s w g whole runs in
    rw op (record { all = record { others = turn.all.others; active = turn.all.active; last = turn.all.last }; own = turn.own })
due_turns code settings s w g entry whole runs (inr (inr (inr run))) = rw run.1 (record {
  all = record { others = others_set s.goroutines s.goroutines s.last_epoch g _ (others_same s.goroutines s.last_epoch g); active = refl; last = refl };
  own = passes_on code settings s w g whole runs s.goroutines run.0 (within code settings s w g whole runs) (itself code settings s w g whole runs);
})

-- A Start and a Record turn their own goroutine alone.
pub record TurnsOwn (s t : State) (g : ℕ) (y : Goroutine) : Type 0 where
  pub all : TurnsAll s t g
  pub own : goroutine t g ≡ y

pub start_turns : (code : Code) (settings : Settings) (s : State) (w g : ℕ) → g < births s → TurnsOwn s (after code settings s (Start w g)) g (turned (Running w) (goroutine s g))
unfolding after
start_turns code settings s w g born = record {
  all = record { others = others_set s.goroutines s.goroutines s.last_epoch g _ (others_same s.goroutines s.last_epoch g); active = refl; last = refl };
  own = get_or-set_same s.goroutines g (turned (Running w) (goroutine s g)) nobody born;
}

pub record_turns : (code : Code) (settings : Settings) (s : State) (a g : ℕ) → g < births s → TurnsOwn s (after code settings s (Record a g)) g (recorded s.active (goroutine s g))
unfolding after
record_turns code settings s a g born = record {
  all = record { others = others_set s.goroutines s.goroutines s.last_epoch g _ (others_same s.goroutines s.last_epoch g); active = refl; last = refl };
  own = get_or-set_same s.goroutines g (recorded s.active (goroutine s g)) nobody born;
}
