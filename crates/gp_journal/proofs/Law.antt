-- The journal law.
use Rattle.std.proofs.Common.{◌≡◌, ◌⊎◌, ℕ, ◌+◌, ◌<◌, Bool, true, false, not, List, [], ◌∷◌, ◌++◌, get_or, take, replicate, sum_by, Some, None, refl, sym, ap, ◌∙◌, subst, inl, inr, arith, zero, suc, true≢false}
use Rattle.std.proofs.lemmas.Bool.{and_left}
use Rattle.std.proofs.lemmas.List.Sums.{sum_by-cons}
use Rattle.gp_sync.specs.Operations.{empty_channel, free_mutex}
use Rattle.gp_journal.specs.declared.entry.Entry.{Entry}
use Rattle.gp_journal.specs.declared.entry.Entry.TheVariants.{Start, Run, Op, Tick, Park, Open, Refuse, Record, Close}
use Rattle.gp_journal.specs.declared.goroutine.Goroutine.{Goroutine}
use Rattle.gp_journal.specs.declared.goroutine.Status.TheVariants.{Runnable, Running, Blocked, Faulted, Dead}
use Rattle.gp_journal.specs.declared.settings.Settings.{Settings}
use Rattle.gp_journal.specs.State.{Code, State, nobody, resting, goroutine, is_running, is_live, is_dead, is_behind, first, main_goroutine}
use Rattle.gp_journal.specs.May.{May, MayOpen, MayRecord}
use Rattle.gp_journal.specs.Effect.{recorded, after}
use Rattle.gp_journal.specs.Run.{AreLegal, after_all, last, at}
use Rattle.gp_journal.specs.Frozen.{row, rows_taken, inserted, sorted}
use Rattle.gp_sync.specs.Places.{in_channel, in_mutex, places_of}
use Rattle.gp_journal.specs.JournalLaw.{KeepsEpochs, StandsAs, has_close, EpochsHold, UnrecordedStand, RowsAreFrozen}
use Rattle.gp_journal.proofs.Places.{changed, none_counted}
use Rattle.gp_journal.proofs.Whole.{IsWhole, Behind}
use Rattle.gp_journal.proofs.Acts.{acts_all}
use Rattle.gp_journal.proofs.Steps.{step_whole, behind_from, active_last, none_active}
use Rattle.gp_journal.proofs.Rows.{SamePlace, Settled, IsQuiet, step_settled, not_behind, missing, missing_same, missing_insert, missing_none, missing_all}

-- The first state is whole.
nothing_summed : {X : Type 0} (f : X → ℕ) (x : X) (n : ℕ) → f x ≡ 0 → sum_by f (replicate n x) ≡ 0
nothing_summed f x zero e = refl
nothing_summed f x (suc n) e = let rest = nothing_summed f x n e in omega (arith, sum_by-cons f x (replicate n x))

rests : (n w : ℕ) → (get_or (replicate n resting) w resting).runs ≡ None
rests zero w = refl
rests (suc n) zero = refl
rests (suc n) (suc w) = rests n w

pub first_whole : (code : Code) (settings : Settings) → IsWhole (first code settings)
unfolding places_of
first_whole code settings = record {
  on_worker = λ w g e. let clash : None ≡ Some g = sym (rests settings.workers w) ∙ e in absurd (cc);
  waits = λ g. let a = nothing_summed (in_channel g) empty_channel code.channels refl in let b = nothing_summed (in_mutex g) free_mutex code.mutexes refl in omega arith;
  epochs = λ g live. inl (none g);
  is_last = inl refl;
}
  where
    none : (g : ℕ) → (get_or (main_goroutine code ∷ []) g nobody).epoch ≡ 0
    none zero = refl
    none (suc g) = refl

pub all_whole : (code : Code) (settings : Settings) (s : State) (entries : List Entry) → IsWhole s → AreLegal code settings s entries → IsWhole (after_all code settings s entries)
all_whole code settings s [] whole legal = whole
all_whole code settings s (entry ∷ entries) whole legal = all_whole code settings (after code settings s entry) entries (step_whole code settings s entry whole legal.0) legal.1

-- A legal journal's prefix is legal.
pub prefix_legal : (code : Code) (settings : Settings) (s : State) (k : ℕ) (entries : List Entry) → AreLegal code settings s entries → AreLegal code settings s (take k entries)
prefix_legal code settings s zero entries legal = tt
prefix_legal code settings s (suc k) [] legal = tt
prefix_legal code settings s (suc k) (entry ∷ entries) legal = (legal.0, prefix_legal code settings (after code settings s entry) k entries legal.1)

-- the two parts of a legal list
pub front_legal : (code : Code) (settings : Settings) (s : State) (xs ys : List Entry) → AreLegal code settings s (xs ++ ys) → AreLegal code settings s xs
front_legal code settings s [] ys legal = tt
front_legal code settings s (x ∷ xs) ys legal = (legal.0, front_legal code settings (after code settings s x) xs ys legal.1)

pub rest_legal : (code : Code) (settings : Settings) (s : State) (xs ys : List Entry) → AreLegal code settings s (xs ++ ys) → AreLegal code settings (after_all code settings s xs) ys
rest_legal code settings s [] ys legal = legal
rest_legal code settings s (x ∷ xs) ys legal = rest_legal code settings (after code settings s x) xs ys legal.1

pub after_all-append : (code : Code) (settings : Settings) (s : State) (xs ys : List Entry) → after_all code settings s (xs ++ ys) ≡ after_all code settings (after_all code settings s xs) ys
after_all-append code settings s [] ys = refl
after_all-append code settings s (x ∷ xs) ys = after_all-append code settings (after code settings s x) xs ys

keeps_epochs : (s : State) → IsWhole s → KeepsEpochs s
keeps_epochs s whole = record {
  while_running = λ g some e. runs_last g some e (whole.epochs g (running_live (goroutine s g) e));
  while_active = λ g some live. near g some (whole.epochs g live);
  while_none = λ g none live. same g none (whole.epochs g live);
}
  where
    running_live : (x : Goroutine) → is_running x.status ≡ true → is_live x ≡ true
    running_live x e = by x.status e
      where
        by : (st : Rattle.gp_journal.specs.declared.goroutine.Status.Status) → is_running st ≡ true → not (is_dead st) ≡ true
        by (Running w) e = refl
        by Runnable e = refl
        by Blocked e = refl
        by Faulted e = refl
        by Dead e = e

    runs_last : (g : ℕ) → 0 < s.active → is_running (goroutine s g).status ≡ true → ((goroutine s g).epoch ≡ s.last_epoch) ⊎ Behind s.active s.last_epoch (goroutine s g) →
        (goroutine s g).epoch ≡ s.active
    runs_last g some e (inl same) = same ∙ sym (active_last s whole some)
    runs_last g some e (inr behind) = absurd (true≢false (sym e ∙ behind.2))

    near : (g : ℕ) → 0 < s.active → ((goroutine s g).epoch ≡ s.last_epoch) ⊎ Behind s.active s.last_epoch (goroutine s g) → ((goroutine s g).epoch ≡ s.active) ⊎ ((goroutine s g).epoch + 1 ≡ s.active)
    near g some (inl same) = inl (same ∙ sym (active_last s whole some))
    near g some (inr behind) = inr (behind.1 ∙ sym (active_last s whole some))

    same : (g : ℕ) → s.active ≡ 0 → ((goroutine s g).epoch ≡ s.last_epoch) ⊎ Behind s.active s.last_epoch (goroutine s g) → (goroutine s g).epoch ≡ s.last_epoch
    same g none (inl e) = e
    same g none (inr behind) = let some = behind.0 in absurd (omega arith)

pub epochs_hold : EpochsHold
epochs_hold code settings journal k legal =
    keeps_epochs (at code settings journal k) (all_whole code settings (first code settings) (take k journal) (first_whole code settings)
    (prefix_legal code settings (first code settings) k journal legal))

-- a quiet entry leaves the active profile
pub quiet_active : (code : Code) (settings : Settings) (s : State) (entry : Entry) → IsWhole s → May code settings s entry → IsQuiet entry → (after code settings s entry).active ≡ s.active
unfolding after
quiet_active code settings s (Start w g) whole may quiet = refl
quiet_active code settings s (Run w g n) whole may quiet = refl
quiet_active code settings s (Op w g) whole may quiet =
    acts_all code settings w g s (λ t. t.active ≡ s.active) whole (record {
      stays = refl;
      resumed = refl;
      passed = λ cs ms. refl;
      woke = λ cs ms h blocked. refl;
      blocked = λ cs ms. refl;
      faulted = λ cause cs ms some. refl;
      bore = λ function room. refl;
    })
quiet_active code settings s (Tick w g) whole may quiet = refl
quiet_active code settings s (Park w g) whole may quiet = refl
quiet_active code settings s (Refuse room n) whole may quiet = refl
quiet_active code settings s (Open epoch room) whole may quiet = absurd quiet
quiet_active code settings s (Record actor g) whole may quiet = absurd quiet
quiet_active code settings s (Close epoch) whole may quiet = absurd quiet

-- The rows that are still to be taken, sorted, are the missing ones.
abbrev Taken : Code → Settings → State → List Entry → Type 0
Taken code settings s entries = sorted (rows_taken code settings s entries) ≡ missing code s.active 0 s.goroutines

-- What holds of every whole state with an active profile and of the entries from it on, holds before a quiet entry.
quiet_taken : (code : Code) (settings : Settings) (s : State) (entry : Entry) (entries : List Entry) → IsWhole s → 0 < s.active →
    May code settings s entry × AreLegal code settings (after code settings s entry) entries → IsQuiet entry →
    ((t : State) → IsWhole t → 0 < t.active → AreLegal code settings t entries → Taken code settings t entries) →
    sorted (rows_taken code settings (after code settings s entry) entries) ≡ missing code s.active 0 s.goroutines
quiet_taken code settings s entry entries whole some legal quiet rest =
    let t = after code settings s entry in
    let same = quiet_active code settings s entry whole legal.0 quiet in
    rest t (step_whole code settings s entry whole legal.0) (subst (λ a. 0 < a) (sym same) some) legal.1
    ∙ ap (λ a. missing code a 0 t.goroutines) same
    ∙ missing_same code s.active 0 s.goroutines t.goroutines (step_settled code settings s entry whole legal.0 quiet)

pub record_active : (code : Code) (settings : Settings) (s : State) (actor g : ℕ) → 0 < s.active → 0 < (after code settings s (Record actor g)).active
unfolding after
record_active code settings s actor g some = some

record_taken : (code : Code) (settings : Settings) (s : State) (actor g : ℕ) (entries : List Entry) → IsWhole s → MayRecord settings s actor g →
    Taken code settings (after code settings s (Record actor g)) entries → Taken code settings s (Record actor g ∷ entries)
unfolding after
record_taken code settings s actor g entries whole may taken =
    ap (inserted (row code g (goroutine s g))) taken
    ∙ missing_insert code s.active 0 g g s.goroutines (recorded s.active (goroutine s g)) (omega arith) may.unrecorded
    (not_behind s.active (recorded s.active (goroutine s g)) (omega arith))

pub none_opens : (settings : Settings) (s : State) (epoch room : ℕ) → 0 < s.active → MayOpen settings s epoch room → ⊥
none_opens settings s epoch room some may = let none = none_active settings s may.is_asked in omega arith

all_taken : (code : Code) (settings : Settings) (entries : List Entry) → has_close entries ≡ true → (s : State) → IsWhole s → 0 < s.active → AreLegal code settings s entries →
    Taken code settings s entries
all_taken code settings [] closes s whole some legal = absurd (true≢false (sym closes))
all_taken code settings (Close epoch ∷ entries) closes s whole some legal =
    sym (missing_none code s.active 0 s.goroutines (none_counted (is_behind s.active) nobody s.goroutines refl legal.0.all_recorded))
all_taken code settings (Open epoch room ∷ entries) closes s whole some legal = absurd (none_opens settings s epoch room some legal.0)
all_taken code settings (Record actor g ∷ entries) closes s whole some legal =
    record_taken code settings s actor g entries whole legal.0
    (all_taken code settings entries closes (after code settings s (Record actor g)) (step_whole code settings s (Record actor g) whole legal.0) (record_active code settings s actor g some) legal.1)
all_taken code settings (Start w g ∷ entries) closes s whole some legal = quiet_taken code settings s (Start w g) entries whole some legal tt (all_taken code settings entries closes)
all_taken code settings (Run w g n ∷ entries) closes s whole some legal = quiet_taken code settings s (Run w g n) entries whole some legal tt (all_taken code settings entries closes)
all_taken code settings (Op w g ∷ entries) closes s whole some legal = quiet_taken code settings s (Op w g) entries whole some legal tt (all_taken code settings entries closes)
all_taken code settings (Tick w g ∷ entries) closes s whole some legal = quiet_taken code settings s (Tick w g) entries whole some legal tt (all_taken code settings entries closes)
all_taken code settings (Park w g ∷ entries) closes s whole some legal = quiet_taken code settings s (Park w g) entries whole some legal tt (all_taken code settings entries closes)
all_taken code settings (Refuse room n ∷ entries) closes s whole some legal = quiet_taken code settings s (Refuse room n) entries whole some legal tt (all_taken code settings entries closes)

-- At an Open every live goroutine is behind.
pub all_behind : (settings : Settings) (epoch room : ℕ) (s : State) → IsWhole s → MayOpen settings s epoch room → (k : ℕ) → is_behind epoch (goroutine s k) ≡ is_live (goroutine s k)
all_behind settings epoch room s whole may k = by (is_live (goroutine s k)) refl
  where
    below : ((goroutine s k).epoch ≡ s.last_epoch) ⊎ Behind s.active s.last_epoch (goroutine s k) → (goroutine s k).epoch < epoch
    below (inl same) = let e = may.next_epoch in omega arith
    below (inr behind) = let none = none_active settings s may.is_asked in let some = behind.0 in absurd (omega arith)

    by : (b : Bool) → is_live (goroutine s k) ≡ b → is_behind epoch (goroutine s k) ≡ b
    by true live = behind_from epoch (goroutine s k) live (below (whole.epochs k live))
    by false dead = and_left (is_live (goroutine s k)) _ dead

pub record Opened (code : Code) (settings : Settings) (s : State) (epoch room : ℕ) : Type 0 where
  pub same_goroutines : (after code settings s (Open epoch room)).goroutines ≡ s.goroutines
  pub now_active : (after code settings s (Open epoch room)).active ≡ epoch

pub opened : (code : Code) (settings : Settings) (s : State) (epoch room : ℕ) → Opened code settings s epoch room
unfolding after
opened code settings s epoch room = record { same_goroutines = refl; now_active = refl }

pub rows_are_frozen : RowsAreFrozen
rows_are_frozen code settings before epoch room during legal closes =
    let s = last code settings before in
    let e = Open epoch room in
    let whole = all_whole code settings (first code settings) before (first_whole code settings) (front_legal code settings (first code settings) before (e ∷ during) legal) in
    let from_here = rest_legal code settings (first code settings) before (e ∷ during) legal in
    let t = after code settings s e in
    let o = opened code settings s epoch room in
    let some : 0 < t.active = let n = from_here.0.next_epoch in let a = o.now_active in omega arith in
    let taken = all_taken code settings during closes t (step_whole code settings s e whole from_here.0) some from_here.1 in
    let at_open = ap (λ u. sorted (rows_taken code settings u during)) (after_all-append code settings (first code settings) before (e ∷ [])) in
    let listed = ap (λ gs. missing code t.active 0 gs) o.same_goroutines ∙ ap (λ a. missing code a 0 s.goroutines) o.now_active in
    at_open ∙ taken ∙ listed ∙ missing_all code epoch 0 s.goroutines (all_behind settings epoch room s whole from_here.0)

-- One that is behind now was behind before, and stands where it stood.
record StoodBehind (active : ℕ) (x y : Goroutine) : Type 0 where
  was : is_behind active x ≡ true
  place : SamePlace x y

Follows : ℕ → List Goroutine → List Goroutine → Type 0
Follows active old new = (k : ℕ) → is_behind active (get_or new k nobody) ≡ true → StoodBehind active (get_or old k nobody) (get_or new k nobody)

follows_settled : (active : ℕ) (old new : List Goroutine) → Settled active old new → Follows active old new
unfolding Follows
follows_settled active old new settled k behind = let was = sym ((settled k).same) ∙ behind in record { was = was; place = (settled k).place was }

follows_again : (active : ℕ) (xs ys zs : List Goroutine) → Follows active xs ys → Follows active ys zs → Follows active xs zs
unfolding Follows
follows_again active xs ys zs a b k behind =
    let q = b k behind in
    let p = a k q.was in
    record { was = p.was; place = record { start = q.place.start ∙ p.place.start; inherited = q.place.inherited ∙ p.place.inherited; count = q.place.count ∙ p.place.count } }

follows_same : (active : ℕ) (gs : List Goroutine) → Follows active gs gs
unfolding Follows
follows_same active gs k behind = record { was = behind; place = record { start = refl; inherited = refl; count = refl } }

follows_record : (code : Code) (settings : Settings) (s : State) (actor g : ℕ) → Follows s.active s.goroutines (after code settings s (Record actor g)).goroutines
unfolding Follows after
follows_record code settings s actor g =
    changed (λ k x. is_behind s.active x ≡ true → StoodBehind s.active (goroutine s k) x) nobody s.goroutines g (recorded s.active (goroutine s g))
    (λ behind. absurd (true≢false (sym behind ∙ not_behind s.active (recorded s.active (goroutine s g)) (omega arith))))
    (λ k behind. record { was = behind; place = record { start = refl; inherited = refl; count = refl } })

pub record_same_active : (code : Code) (settings : Settings) (s : State) (actor g : ℕ) → (after code settings s (Record actor g)).active ≡ s.active
unfolding after
record_same_active code settings s actor g = refl

-- what follows after an entry that leaves the active profile
after_entry : (code : Code) (settings : Settings) (s : State) (entry : Entry) (entries : List Entry) → IsWhole s → 0 < s.active →
    May code settings s entry × AreLegal code settings (after code settings s entry) entries →
    (after code settings s entry).active ≡ s.active → Follows s.active s.goroutines (after code settings s entry).goroutines →
    ((t : State) → IsWhole t → 0 < t.active → AreLegal code settings t entries → Follows t.active t.goroutines (after_all code settings t entries).goroutines) →
    Follows s.active s.goroutines (after_all code settings (after code settings s entry) entries).goroutines
after_entry code settings s entry entries whole some legal same first_step rest =
    let t = after code settings s entry in
    let more = rest t (step_whole code settings s entry whole legal.0) (subst (λ a. 0 < a) (sym same) some) legal.1 in
    follows_again s.active s.goroutines t.goroutines (after_all code settings t entries).goroutines first_step
    (subst (λ a. Follows a t.goroutines (after_all code settings t entries).goroutines) same more)

quiet_follows : (code : Code) (settings : Settings) (s : State) (entry : Entry) (entries : List Entry) → IsWhole s → 0 < s.active →
    May code settings s entry × AreLegal code settings (after code settings s entry) entries → IsQuiet entry →
    ((t : State) → IsWhole t → 0 < t.active → AreLegal code settings t entries → Follows t.active t.goroutines (after_all code settings t entries).goroutines) →
    Follows s.active s.goroutines (after_all code settings (after code settings s entry) entries).goroutines
quiet_follows code settings s entry entries whole some legal quiet rest =
    after_entry code settings s entry entries whole some legal (quiet_active code settings s entry whole legal.0 quiet)
    (follows_settled s.active s.goroutines (after code settings s entry).goroutines (step_settled code settings s entry whole legal.0 quiet)) rest

all_follow : (code : Code) (settings : Settings) (entries : List Entry) → has_close entries ≡ false → (s : State) → IsWhole s → 0 < s.active → AreLegal code settings s entries →
    Follows s.active s.goroutines (after_all code settings s entries).goroutines
all_follow code settings [] none s whole some legal = follows_same s.active s.goroutines
all_follow code settings (Close epoch ∷ entries) none s whole some legal = absurd (true≢false none)
all_follow code settings (Open epoch room ∷ entries) none s whole some legal = absurd (none_opens settings s epoch room some legal.0)
all_follow code settings (Record actor g ∷ entries) none s whole some legal =
    after_entry code settings s (Record actor g) entries whole some legal (record_same_active code settings s actor g) (follows_record code settings s actor g) (all_follow code settings entries none)
all_follow code settings (Start w g ∷ entries) none s whole some legal = quiet_follows code settings s (Start w g) entries whole some legal tt (all_follow code settings entries none)
all_follow code settings (Run w g n ∷ entries) none s whole some legal = quiet_follows code settings s (Run w g n) entries whole some legal tt (all_follow code settings entries none)
all_follow code settings (Op w g ∷ entries) none s whole some legal = quiet_follows code settings s (Op w g) entries whole some legal tt (all_follow code settings entries none)
all_follow code settings (Tick w g ∷ entries) none s whole some legal = quiet_follows code settings s (Tick w g) entries whole some legal tt (all_follow code settings entries none)
all_follow code settings (Park w g ∷ entries) none s whole some legal = quiet_follows code settings s (Park w g) entries whole some legal tt (all_follow code settings entries none)
all_follow code settings (Refuse room n ∷ entries) none s whole some legal = quiet_follows code settings s (Refuse room n) entries whole some legal tt (all_follow code settings entries none)

stands : (code : Code) (opened now : State) (g : ℕ) → SamePlace (goroutine opened g) (goroutine now g) → StandsAs code opened now g
stands code opened now g place = record {
  same_count = place.count;
  same_stack = cc (place.start, place.count);
  same_labels = cc (place.start, place.inherited, place.count);
}

pub unrecorded_stand : UnrecordedStand
unfolding Follows
unrecorded_stand code settings before epoch room during g legal none live below =
    let s = last code settings before in
    let e = Open epoch room in
    let whole = all_whole code settings (first code settings) before (first_whole code settings) (front_legal code settings (first code settings) before (e ∷ during) legal) in
    let from_here = rest_legal code settings (first code settings) before (e ∷ during) legal in
    let t = after code settings s e in
    let o = opened code settings s epoch room in
    let some : 0 < t.active = let n = from_here.0.next_epoch in let a = o.now_active in omega arith in
    let now = after_all code settings t during in
    let here = after_all-append code settings (first code settings) before (e ∷ during) in
    let all = all_follow code settings during none t (step_whole code settings s e whole from_here.0) some from_here.1 in
    let stood : Follows epoch s.goroutines now.goroutines = subst (λ gs. Follows epoch gs now.goroutines) o.same_goroutines (subst (λ a. Follows a t.goroutines now.goroutines) o.now_active all) in
    subst (λ u. is_live (goroutine u g) ≡ true → (goroutine u g).epoch + 1 ≡ epoch → StandsAs code s u g) (sym here)
    (λ lives under. stands code s now g ((stood g (behind_from epoch (goroutine now g) lives (omega arith))).place)) live below
