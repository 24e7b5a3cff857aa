-- What every state of a legal journal keeps, and that each part of an effect keeps it.
use Rattle.std.proofs.Common.{◌≡◌, ◌⊎◌, ℕ, ◌+◌, ◌<◌, ◌≤◌, true, false, not, List, [], ◌∷◌, ◌++◌, length, get_or, set, Some, None, refl, sym, ap, ◌∙◌, subst, inl, inr, arith, get_or-set_other, true≢false}
use Rattle.std.proofs.lemmas.List.{get_or_past}
use Rattle.std.proofs.lemmas.Bool.{cases_lt}
use Rattle.gp_sync.specs.Operations.{Channel, Mutex}
use Rattle.gp_journal.specs.declared.goroutine.Goroutine.{Goroutine}
use Rattle.gp_journal.specs.declared.goroutine.Status.{Status}
use Rattle.gp_journal.specs.declared.goroutine.Status.TheVariants.{Runnable, Running, Blocked, Dead}
use Rattle.gp_journal.specs.declared.goroutine.Worker.{Worker}
use Rattle.gp_journal.specs.State.{State, nobody, resting, is_running, is_dead, is_live}
use Rattle.gp_sync.specs.Places.{places_of}
use Rattle.gp_journal.proofs.Places.{changed, pushed}

-- how many places in wait lists a goroutine may have
abbrev pub seats : Status → ℕ
seats Blocked = 1
seats _ = 0

-- A live goroutine has the last epoch, or stands one behind it while a profile is active, and then doesn't run.
abbrev pub Behind : ℕ → ℕ → Goroutine → Type 0
Behind active last g = (0 < active) × (g.epoch + 1 ≡ last) × (is_running g.status ≡ false)

abbrev pub Fits : ℕ → ℕ → Goroutine → Type 0
Fits active last g = is_live g ≡ true → (g.epoch ≡ last) ⊎ Behind active last g

pub record Whole (gs : List Goroutine) (ws : List Worker) (cs : List Channel) (ms : List Mutex) (active last : ℕ) : Type 0 where
  -- who is on a worker runs
  pub on_worker : (w g : ℕ) → (get_or ws w resting).runs ≡ Some g → (get_or gs g nobody).status ≡ Running w
  -- a goroutine waits at most once and only while blocked
  pub waits : (g : ℕ) → places_of cs ms g ≤ seats (get_or gs g nobody).status
  pub epochs : (g : ℕ) → Fits active last (get_or gs g nobody)
  pub is_last : (active ≡ 0) ⊎ (active ≡ last)

abbrev pub IsWhole : State → Type 0
IsWhole s = Whole s.goroutines s.workers s.channels s.mutexes s.active s.last_epoch

pub some_same : {a b : ℕ} → Some a ≡ Some b → a ≡ b
some_same e = cc

pub Running-same : {a b : ℕ} → Running a ≡ Running b → a ≡ b
Running-same e = cc

-- a live goroutine's number is that of a born one
live_at : (gs : List Goroutine) (g : ℕ) → (g < length gs) ⊎ (length gs ≤ g) → is_live (get_or gs g nobody) ≡ true → g < length gs
live_at gs g (inl within) live = within
live_at gs g (inr past) live = absurd (true≢false (sym live ∙ ap is_live (get_or_past gs g nobody past)))

pub live_within : (gs : List Goroutine) (g : ℕ) → is_live (get_or gs g nobody) ≡ true → g < length gs
live_within gs g live = live_at gs g (cases_lt g (length gs)) live

-- A worker that leaves what it ran, or still runs it.
module _ (gs : List Goroutine) (ws : List Worker) (cs : List Channel) (ms : List Mutex) (active last : ℕ) (whole : Whole gs ws cs ms active last) where
  pub unloads : (w : ℕ) (v : Worker) → v.runs ≡ None → Whole gs (set ws w v) cs ms active last
  unloads w v none = record {
    on_worker = changed (λ n u. (g : ℕ) → u.runs ≡ Some g → (get_or gs g nobody).status ≡ Running n) resting ws w v (λ g e. absurd (cc)) whole.on_worker;
    waits = whole.waits;
    epochs = whole.epochs;
    is_last = whole.is_last;
  }

  pub keeps_running : (w : ℕ) (v : Worker) → v.runs ≡ (get_or ws w resting).runs → Whole gs (set ws w v) cs ms active last
  keeps_running w v same = record {
    on_worker = changed (λ n u. (g : ℕ) → u.runs ≡ Some g → (get_or gs g nobody).status ≡ Running n) resting ws w v (λ g e. whole.on_worker w g (sym same ∙ e)) whole.on_worker;
    waits = whole.waits;
    epochs = whole.epochs;
    is_last = whole.is_last;
  }

  -- A goroutine with another count or mark.
  pub keeps_standing : (g : ℕ) (y : Goroutine) → y.status ≡ (get_or gs g nobody).status → y.epoch ≡ (get_or gs g nobody).epoch → Whole (set gs g y) ws cs ms active last
  keeps_standing g y status epoch = record {
    on_worker = λ w k e. changed (λ n x. n ≡ k → x.status ≡ Running w) nobody gs g y
        (λ here. status ∙ subst (λ n. (get_or gs n nobody).status ≡ Running w) (sym here) (whole.on_worker w k e))
        (λ n here. subst (λ m. (get_or gs m nobody).status ≡ Running w) (sym here) (whole.on_worker w k e)) k refl;
    waits = changed (λ n x. places_of cs ms n ≤ seats x.status) nobody gs g y (rw status (whole.waits g)) whole.waits;
    epochs = changed (λ n x. Fits active last x) nobody gs g y (fits (get_or gs g nobody) (whole.epochs g) status epoch) whole.epochs;
    is_last = whole.is_last;
  }
    where
      fits : (x : Goroutine) → Fits active last x → y.status ≡ x.status → y.epoch ≡ x.epoch → Fits active last y
      fits x old s e live = moved (old (sym (ap (λ t. not (is_dead t)) s) ∙ live))
        where
          moved : (x.epoch ≡ last) ⊎ Behind active last x → (y.epoch ≡ last) ⊎ Behind active last y
          moved (inl same) = inl (e ∙ same)
          moved (inr b) = inr (b.0, ap (λ n. n + 1) e ∙ b.1, ap is_running s ∙ b.2)

  -- A goroutine that no worker runs may change otherwise.
  pub frees : (g : ℕ) (y : Goroutine) → ((w : ℕ) → (get_or ws w resting).runs ≡ Some g → ⊥) → places_of cs ms g ≤ seats y.status → Fits active last y → Whole (set gs g y) ws cs ms active last
  frees g y alone waits fits = record {
    on_worker = λ w k e. rw (get_or-set_other gs g k y nobody (λ same. alone w (rw (← same) e))) (whole.on_worker w k e);
    waits = changed (λ n x. places_of cs ms n ≤ seats x.status) nobody gs g y waits whole.waits;
    epochs = changed (λ n x. Fits active last x) nobody gs g y fits whole.epochs;
    is_last = whole.is_last;
  }

  -- A goroutine that is born with the last epoch.
  pub gains : (y : Goroutine) → y.status ≡ Runnable → y.epoch ≡ last → Whole (gs ++ y ∷ []) ws cs ms active last
  gains y status epoch = record {
    on_worker = λ w k e. pushed (λ n x. n ≡ k → x.status ≡ Running w) nobody gs y
        (λ here. absurd (unborn k here (whole.on_worker w k e)))
        (λ n here. subst (λ m. (get_or gs m nobody).status ≡ Running w) (sym here) (whole.on_worker w k e)) k refl;
    waits = pushed (λ n x. places_of cs ms n ≤ seats x.status) nobody gs y (rw status (subst (λ x. places_of cs ms (length gs) ≤ seats x.status) (get_or_past gs (length gs) nobody (omega arith)) (whole.waits (length gs)))) whole.waits;
    epochs = pushed (λ n x. Fits active last x) nobody gs y (λ live. inl epoch) whole.epochs;
    is_last = whole.is_last;
  }
    where
      unborn : {w : ℕ} (k : ℕ) → length gs ≡ k → (get_or gs k nobody).status ≡ Running w → ⊥
      unborn k here e = let past = get_or_past gs k nobody (omega arith) in let dead : Dead ≡ Running _ = sym (ap (λ (x : Goroutine). x.status) past) ∙ e in absurd (cc)

  -- other wait lists, in which each goroutine still has no more places than it may
  pub wait_lists : (cs' : List Channel) (ms' : List Mutex) → ((g : ℕ) → places_of cs' ms' g ≤ seats (get_or gs g nobody).status) → Whole gs ws cs' ms' active last
  wait_lists cs' ms' waits = record {
    on_worker = whole.on_worker;
    waits = waits;
    epochs = whole.epochs;
    is_last = whole.is_last;
  }
