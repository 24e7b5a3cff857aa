-- While a profile is active, goroutines that are still behind stand where they stood.
use Rattle.std.proofs.Common.{◌≡◌, ◌⊎◌, ℕ, ◌+◌, ◌<◌, ◌≤◌, Bool, true, false, ◌&&◌, ◌==◌, List, [], ◌∷◌, ◌++◌, length, get_or, set, Some, refl, sym, ap, ◌∙◌, subst, inl, inr, arith, zero, suc, true≢false, if◌then◌else◌, nat_lt}
use Rattle.std.proofs.lemmas.List.{get_or_past}
use Rattle.std.proofs.lemmas.Bool.{and_right, or_cases, le-ltb, lt-leb, le-leb, eqb-true}
use Rattle.gp_stack.specs.declared.record.Record.{Record as Row}
use Rattle.gp_journal.specs.declared.entry.Entry.{Entry}
use Rattle.gp_journal.specs.declared.entry.Entry.TheVariants.{Start, Run, Op, Tick, Park, Open, Refuse, Record, Close}
use Rattle.gp_journal.specs.declared.goroutine.Goroutine.{Goroutine}
use Rattle.gp_journal.specs.declared.goroutine.Status.TheVariants.{Blocked}
use Rattle.gp_journal.specs.declared.settings.Settings.{Settings}
use Rattle.gp_journal.specs.State.{Code, State, nobody, goroutine, worker, is_live, is_behind}
use Rattle.gp_journal.specs.May.{May, is_recorded}
use Rattle.gp_journal.specs.Effect.{woken_at, passes, passed, bears, child_of, acts, after, unmarked}
use Rattle.gp_journal.specs.Frozen.{row, rows_from, inserted}
use Rattle.gp_journal.proofs.Places.{changed, pushed}
use Rattle.gp_journal.proofs.Whole.{IsWhole}
use Rattle.gp_journal.proofs.Parts.{live_status, running_last}
use Rattle.gp_journal.proofs.Acts.{acts_all}

-- two goroutines stand at the same place
pub record SamePlace (x y : Goroutine) : Type 0 where
  pub start : y.start ≡ x.start
  pub inherited : y.set ≡ x.set
  pub count : y.count ≡ x.count

-- neither is behind, or both are and stand at the same place
pub record SameBehind (active : ℕ) (x y : Goroutine) : Type 0 where
  pub same : is_behind active y ≡ is_behind active x
  pub place : is_behind active x ≡ true → SamePlace x y

abbrev pub Settled : ℕ → List Goroutine → List Goroutine → Type 0
Settled active old new = (k : ℕ) → SameBehind active (get_or old k nobody) (get_or new k nobody)

same_behind : (active : ℕ) (x : Goroutine) → SameBehind active x x
same_behind active x = record { same = refl; place = λ b. record { start = refl; inherited = refl; count = refl } }

behind_again : (active : ℕ) (x y z : Goroutine) → SameBehind active x y → SameBehind active y z → SameBehind active x z
behind_again active x y z a b = record {
  same = b.same ∙ a.same;
  place = λ behind. let p = a.place behind in let q = b.place (a.same ∙ behind) in record { start = q.start ∙ p.start; inherited = q.inherited ∙ p.inherited; count = q.count ∙ p.count };
}

pub settled_again : (active : ℕ) (xs ys zs : List Goroutine) → Settled active xs ys → Settled active ys zs → Settled active xs zs
settled_again active xs ys zs a b k = behind_again active _ _ _ (a k) (b k)

pub not_behind : (active : ℕ) (x : Goroutine) → active ≤ x.epoch → is_behind active x ≡ false
not_behind active x le = and_right (is_live x) (nat_lt x.epoch active) (le-ltb x.epoch active le)

-- a goroutine that isn't behind, and keeps its epoch
unseen : (active : ℕ) (x y : Goroutine) → active ≤ x.epoch → y.epoch ≡ x.epoch → SameBehind active x y
unseen active x y le e = record {
  same = not_behind active y (omega arith) ∙ sym (not_behind active x le);
  place = λ b. absurd (true≢false (sym b ∙ not_behind active x le));
}

settled_set : (active : ℕ) (gs : List Goroutine) (g : ℕ) (y : Goroutine) → SameBehind active (get_or gs g nobody) y → Settled active gs (set gs g y)
settled_set active gs g y one = changed (λ k x. SameBehind active (get_or gs k nobody) x) nobody gs g y one (λ k. same_behind active (get_or gs k nobody))

settled_push : (active : ℕ) (gs : List Goroutine) (y : Goroutine) → is_behind active y ≡ false → Settled active gs (gs ++ y ∷ [])
settled_push active gs y e =
    pushed (λ k x. SameBehind active (get_or gs k nobody) x) nobody gs y
    (subst (λ x. SameBehind active x y) (sym (get_or_past gs (length gs) nobody (omega arith))) (record { same = e; place = λ b. absurd (true≢false (sym b)) }))
    (λ k. same_behind active (get_or gs k nobody))

active_le : (s : State) → IsWhole s → s.active ≤ s.last_epoch
active_le s whole = which whole.is_last
  where
    which : (s.active ≡ 0) ⊎ (s.active ≡ s.last_epoch) → s.active ≤ s.last_epoch
    which (inl none) = omega arith
    which (inr same) = omega arith

-- a running goroutine isn't behind
ahead : (s : State) (w g : ℕ) → IsWhole s → (worker s w).runs ≡ Some g → s.active ≤ (goroutine s g).epoch
ahead s w g whole runs = let e = running_last s w g whole (whole.on_worker w g runs) in let le = active_le s whole in omega arith

woken_same : (active clock : ℕ) (x : Goroutine) → x.status ≡ Blocked → SameBehind active x (woken_at clock x)
woken_same active clock x blocked = record {
  same = ap (λ b. b && nat_lt x.epoch active) (sym (live_status x blocked refl));
  place = λ b. record { start = refl; inherited = refl; count = refl };
}

module _ (code : Code) (settings : Settings) (w g : ℕ) (s : State) (whole : IsWhole s) (runs : (worker s w).runs ≡ Some g) where
  leaver : (y : Goroutine) → y.epoch ≡ (goroutine s g).epoch → Settled s.active s.goroutines (set s.goroutines g y)
  leaver y e = settled_set s.active s.goroutines g y (unseen s.active (goroutine s g) y (ahead s w g whole runs) e)

  -- g passes a point in a list of goroutines in which others were changed before
  passer : (gs : List Goroutine) (n : ℕ) → Settled s.active s.goroutines gs → s.active ≤ (get_or gs g nobody).epoch → Settled s.active s.goroutines (set gs g (passed code n (get_or gs g nobody)))
  passer gs n before le = settled_again s.active s.goroutines gs _ before (settled_set s.active gs g (passed code n (get_or gs g nobody))
      (unseen s.active (get_or gs g nobody) (passed code n (get_or gs g nobody)) le refl))

  ran : (n : ℕ) → Settled s.active s.goroutines (passes code settings w g n s).goroutines
  ran n = passer s.goroutines n (λ k. same_behind s.active (goroutine s k)) (ahead s w g whole runs)

  epoch_kept : (gs : List Goroutine) → ((k : ℕ) → (goroutine s k).epoch ≤ (get_or gs k nobody).epoch) → s.active ≤ (get_or gs g nobody).epoch
  epoch_kept gs kept = let a = kept g in let b = ahead s w g whole runs in omega arith

  acted : Settled s.active s.goroutines (acts code settings w g s).goroutines
  acted = acts_all code settings w g s (λ t. Settled s.active s.goroutines t.goroutines) whole (record {
    stays = λ k. same_behind s.active (goroutine s k);
    resumed = passer (set s.goroutines g (unmarked (goroutine s g))) 1 (leaver (unmarked (goroutine s g)) refl)
        (epoch_kept _ (changed (λ k x. (goroutine s k).epoch ≤ x.epoch) nobody s.goroutines g (unmarked (goroutine s g)) (omega arith) (λ k. omega arith)));
    passed = λ cs ms. ran 1;
    woke = λ cs ms h blocked. passer (set s.goroutines h (woken_at s.clock (goroutine s h))) 1
        (settled_set s.active s.goroutines h (woken_at s.clock (goroutine s h)) (woken_same s.active s.clock (goroutine s h) blocked))
        (epoch_kept _ (changed (λ k x. (goroutine s k).epoch ≤ x.epoch) nobody s.goroutines h (woken_at s.clock (goroutine s h)) (omega arith) (λ k. omega arith)));
    blocked = λ cs ms. leaver _ refl;
    faulted = λ cause cs ms some. leaver _ refl;
    bore = λ function room. passer (bears code function g s).goroutines 1 (settled_push s.active s.goroutines (child_of code function g s)
        (not_behind s.active (child_of code function g s) (active_le s whole)))
        (epoch_kept _ (pushed (λ k x. (goroutine s k).epoch ≤ x.epoch) nobody s.goroutines (child_of code function g s)
        (subst (λ (x : Goroutine). x.epoch ≤ s.last_epoch) (sym (get_or_past s.goroutines (length s.goroutines) nobody (omega arith))) (omega arith)) (λ k. omega arith)));
  })

recorded_ahead : (s : State) (g : ℕ) → is_recorded s g ≡ true → s.active ≤ (goroutine s g).epoch
recorded_ahead s g e = which (or_cases (s.active == 0) ((goroutine s g).epoch == s.active) e)
  where
    which : ((s.active == 0) ≡ true) ⊎ (((goroutine s g).epoch == s.active) ≡ true) → s.active ≤ (goroutine s g).epoch
    which (inl none) = let z = eqb-true s.active 0 none in omega arith
    which (inr same) = let z = eqb-true (goroutine s g).epoch s.active same in omega arith

-- an entry that opens, records and closes nothing
abbrev pub IsQuiet : Entry → Type 0
IsQuiet (Open epoch room) = ⊥
IsQuiet (Record actor g) = ⊥
IsQuiet (Close epoch) = ⊥
IsQuiet _ = Unit {0}

pub step_settled : (code : Code) (settings : Settings) (s : State) (entry : Entry) → IsWhole s → May code settings s entry → IsQuiet entry →
    Settled s.active s.goroutines (after code settings s entry).goroutines
unfolding after
step_settled code settings s (Start w g) whole may quiet = settled_set s.active s.goroutines g _ (unseen s.active (goroutine s g) _ (recorded_ahead s g may.recorded) refl)
step_settled code settings s (Run w g n) whole may quiet = ran code settings w g s whole may.runs n
step_settled code settings s (Op w g) whole may quiet = acted code settings w g s whole may.runs
step_settled code settings s (Tick w g) whole may quiet = λ k. same_behind s.active (goroutine s k)
step_settled code settings s (Park w g) whole may quiet = leaver code settings w g s whole may.runs _ refl
step_settled code settings s (Refuse room n) whole may quiet = λ k. same_behind s.active (goroutine s k)
step_settled code settings s (Open epoch room) whole may quiet = absurd quiet
step_settled code settings s (Record actor g) whole may quiet = absurd quiet
step_settled code settings s (Close epoch) whole may quiet = absurd quiet

-- What is left to be recorded: the rows of those that are behind.
abbrev pub missing : Code → ℕ → ℕ → List Goroutine → List Row
missing code active n gs = rows_from code (is_behind active) n gs

-- rows of goroutines that stand at the same place are the same
row_same : (code : Code) (n : ℕ) (x y : Goroutine) → SamePlace x y → row code n y ≡ row code n x
row_same code n x y place = cc (place.start, place.inherited, place.count)

abbrev row_if : Bool → Row → List Row → List Row
row_if b r rows = if b then r ∷ rows else rows

next_row : (a b : Bool) (r t : Row) (xs ys : List Row) → b ≡ a → (a ≡ true → t ≡ r) → ys ≡ xs → row_if b t ys ≡ row_if a r xs
next_row true b r t xs ys e same rest = rw (e, same refl, rest) refl
next_row false b r t xs ys e same rest = rw (e, rest) refl

pub missing_same : (code : Code) (active n : ℕ) (xs ys : List Goroutine) → Settled active xs ys → missing code active n ys ≡ missing code active n xs
missing_same code active n [] [] h = refl
missing_same code active n [] (y ∷ ys) h =
    next_row false (is_behind active y) (row code n y) (row code n y) [] (missing code active (suc n) ys) ((h 0).same) (λ e. refl) (missing_same code active (suc n) [] ys (λ k. h (suc k)))
missing_same code active n (x ∷ xs) [] h =
    next_row (is_behind active x) false (row code n x) (row code n x) (missing code active (suc n) xs) [] ((h 0).same) (λ e. refl) (missing_same code active (suc n) xs [] (λ k. h (suc k)))
missing_same code active n (x ∷ xs) (y ∷ ys) h =
    next_row (is_behind active x) (is_behind active y) (row code n x) (row code n y) (missing code active (suc n) xs) (missing code active (suc n) ys) ((h 0).same)
    (λ e. row_same code n x y ((h 0).place e)) (missing_same code active (suc n) xs ys (λ k. h (suc k)))

-- a row whose number is below those of a list stands at its head
head_at : (n : ℕ) (r t : Row) (rows : List Row) (b : Bool) → r.g ≤ t.g → inserted r rows ≡ r ∷ rows → inserted r (row_if b t rows) ≡ r ∷ row_if b t rows
head_at n r t rows true le rest = rw (le-leb r.g t.g le) refl
head_at n r t rows false le rest = rest

head_row : (code : Code) (active n : ℕ) (r : Row) (gs : List Goroutine) → r.g ≤ n → inserted r (missing code active n gs) ≡ r ∷ missing code active n gs
head_row code active n r [] le = refl
head_row code active n r (x ∷ xs) le =
    head_at n r (row code n x) (missing code active (suc n) xs) (is_behind active x) le (head_row code active (suc n) r xs (omega arith))

-- a row whose number is above that of a list's head stands in the rest
later_at : (r t : Row) (rows all : List Row) (b : Bool) → t.g < r.g → inserted r rows ≡ all → inserted r (row_if b t rows) ≡ row_if b t all
later_at r t rows all true lt rest = rw (lt-leb r.g t.g lt, rest) refl
later_at r t rows all false lt rest = rest

-- The row of one that was behind and isn't any more, put in its place among the others, gives all.
pub missing_insert : (code : Code) (active n m g : ℕ) (gs : List Goroutine) (y : Goroutine) → m ≡ n + g → is_behind active (get_or gs g nobody) ≡ true → is_behind active y ≡ false →
    inserted (row code m (get_or gs g nobody)) (missing code active n (set gs g y)) ≡ missing code active n gs
missing_insert code active n m g [] y e before after = absurd (true≢false (sym before))
missing_insert code active n m zero (x ∷ xs) y e before after =
    let same : m ≡ n = omega arith in
    rw (before, after, same) (head_row code active (suc n) (row code n x) xs (omega arith))
missing_insert code active n m (suc g) (x ∷ xs) y e before after =
    later_at (row code m (get_or xs g nobody)) (row code n x) (missing code active (suc n) (set xs g y)) (missing code active (suc n) xs) (is_behind active x) (omega arith)
    (missing_insert code active (suc n) m g xs y (omega arith) before after)

-- where none is behind, nothing is missing
pub missing_none : (code : Code) (active n : ℕ) (gs : List Goroutine) → ((k : ℕ) → is_behind active (get_or gs k nobody) ≡ false) → missing code active n gs ≡ []
missing_none code active n [] none = refl
missing_none code active n (x ∷ xs) none = rw (none 0) (missing_none code active (suc n) xs (λ k. none (suc k)))

-- where all that are live are behind, the missing rows are the frozen ones
pub missing_all : (code : Code) (active n : ℕ) (gs : List Goroutine) → ((k : ℕ) → is_behind active (get_or gs k nobody) ≡ is_live (get_or gs k nobody)) →
    missing code active n gs ≡ rows_from code is_live n gs
missing_all code active n [] all = refl
missing_all code active n (x ∷ xs) all =
    next_row (is_live x) (is_behind active x) (row code n x) (row code n x) (rows_from code is_live (suc n) xs) (missing code active (suc n) xs) (all 0) (λ e. refl)
    (missing_all code active (suc n) xs (λ k. all (suc k)))
