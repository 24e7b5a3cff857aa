-- The clock, the slices, the births and the epochs.
use Rattle.std.proofs.Common.{◌≡◌, ◌⊎◌, ℕ, ◌+◌, ◌-◌, ◌*◌, ◌<◌, ◌≤◌, Bool, true, ◌==◌, List, [], ◌∷◌, length, get_or, set, drop, replicate, sum_by, Some, refl, sym, ap, ◌∙◌, inl, inr, arith, zero, suc, true≢false, length-set}
use Rattle.std.proofs.lemmas.List.{set_past, length_push}
use Rattle.std.proofs.lemmas.List.Sums.{sum_by-cons, sum_by-set}
use Rattle.std.proofs.lemmas.Bool.{and_parts, cases_lt}
use Rattle.gp_journal.specs.declared.entry.Entry.{Entry}
use Rattle.gp_journal.specs.declared.entry.Entry.TheVariants.{Start, Run, Op, Tick, Park, Open, Refuse, Record, Close}
use Rattle.gp_journal.specs.declared.goroutine.Goroutine.{Goroutine}
use Rattle.gp_journal.specs.declared.goroutine.Worker.{Worker}
use Rattle.gp_journal.specs.declared.settings.Request.{Request}
use Rattle.gp_journal.specs.declared.settings.Settings.{Settings}
use Rattle.gp_journal.specs.Settings.{quantum}
use Rattle.gp_journal.specs.State.{Code, State, resting, worker, births, first}
use Rattle.gp_journal.specs.Due.{asked, calls_for}
use Rattle.gp_journal.specs.May.{May}
use Rattle.gp_journal.specs.Effect.{started, left, ticked, worked, child_of, acts, after}
use Rattle.gp_journal.proofs.Places.{changed}
use Rattle.gp_journal.proofs.Whole.{IsWhole}
use Rattle.gp_journal.proofs.Acts.{acts_all}
use Rattle.gp_journal.proofs.Going.{GoesOn, op_goes, run_extent, busy_within}

-- `given` is the number of epochs given and requests left.
pub record Numbered (settings : Settings) (clock : ℕ) (ws : List Worker) (entries born given : ℕ) : Type 0 where
  pub sum : clock ≡ sum_by (λ (v : Worker). v.instructions) ws
  pub bound : clock ≤ quantum * entries
  pub slices : (w : ℕ) → (get_or ws w resting).slice ≤ quantum
  pub born_bound : born ≤ settings.cells
  pub epochs : given ≤ length settings.at
  pub number : length ws ≡ settings.workers

abbrev pub IsNumbered : Settings → State → Type 0
IsNumbered settings s = Numbered settings s.clock s.workers s.entries (births s) (s.last_epoch + length s.requests)

sum_same_at : {X : Type 0} (f : X → ℕ) (d : X) (xs : List X) (i : ℕ) (y : X) → (i < length xs) ⊎ (length xs ≤ i) → f y ≡ f (get_or xs i d) → sum_by f (set xs i y) ≡ sum_by f xs
sum_same_at f d xs i y (inl within) e = omega (arith, sum_by-set f xs i y d within)
sum_same_at f d xs i y (inr past) e = ap (sum_by f) (set_past xs i y past)

-- another worker in the place of one, with the same number of instructions
pub with_other : (settings : Settings) (clock : ℕ) (ws : List Worker) (entries born given w : ℕ) (v : Worker) → Numbered settings clock ws entries born given →
    v.instructions ≡ (get_or ws w resting).instructions → v.slice ≤ quantum → Numbered settings clock (set ws w v) (entries + 1) born given
with_other settings clock ws entries born given w v n same slice = record {
  sum = n.sum ∙ sym (sum_same_at (λ (u : Worker). u.instructions) resting ws w v (cases_lt w (length ws)) same);
  bound = let b = n.bound in omega arith;
  slices = changed (λ k u. u.slice ≤ quantum) resting ws w v slice n.slices;
  born_bound = n.born_bound;
  epochs = n.epochs;
  number = length-set ws w v ∙ n.number;
}

pub one_more : (settings : Settings) (clock : ℕ) (ws : List Worker) (entries born given born' given' : ℕ) → Numbered settings clock ws entries born given → born' ≤ settings.cells →
    given' ≤ length settings.at → Numbered settings clock ws (entries + 1) born' given'
one_more settings clock ws entries born given born' given' n few less = record {
  sum = n.sum;
  bound = let b = n.bound in omega arith;
  slices = n.slices;
  born_bound = few;
  epochs = less;
  number = n.number;
}

-- a worker that has run n instructions more
pub with_more : (settings : Settings) (clock : ℕ) (ws : List Worker) (entries born given born' w n : ℕ) (died : Bool) → Numbered settings clock ws entries born given → w < length ws →
    n ≤ quantum - (get_or ws w resting).slice → born' ≤ settings.cells → Numbered settings (clock + n) (set ws w (worked settings n died (get_or ws w resting))) (entries + 1) born' given
with_more settings clock ws entries born given born' w n died it within most few =
    let v = worked settings n died (get_or ws w resting) in record {
      sum = let a = sum_by-set (λ (u : Worker). u.instructions) ws w v resting within in let b = it.sum in omega arith;
      bound = let b = it.bound in omega arith;
      slices = changed (λ k u. u.slice ≤ quantum) resting ws w v (let b = it.slices w in omega arith) it.slices;
      born_bound = few;
      epochs = it.epochs;
      number = length-set ws w v ∙ it.number;
    }

pub next_request : (settings : Settings) (s : State) → asked settings s ≡ true → length (drop 1 s.requests) + 1 ≡ length s.requests
unfolding asked
next_request settings s e = at s.requests ((and_parts (s.active == 0) (calls_for settings s s.requests) e).1)
  where
    at : (requests : List Request) → calls_for settings s requests ≡ true → length (drop 1 requests) + 1 ≡ length requests
    at [] e = absurd (true≢false (sym e))
    at (r ∷ rest) e = omega arith

module _ (code : Code) (settings : Settings) (w g : ℕ) (s : State) (whole : IsWhole s) (numbered : IsNumbered settings s) (runs : (worker s w).runs ≡ Some g) where
  ran : (n born : ℕ) (died : Bool) → n ≤ quantum - (worker s w).slice → born ≤ settings.cells →
      Numbered settings (s.clock + n) (set s.workers w (worked settings n died (worker s w))) (s.entries + 1) born (s.last_epoch + length s.requests)
  ran n born died most few = with_more settings s.clock s.workers s.entries (births s) (s.last_epoch + length s.requests) born w n died numbered (busy_within code settings s w g runs) most few

  left_it : (born : ℕ) → born ≤ settings.cells → Numbered settings s.clock (set s.workers w (left (worker s w))) (s.entries + 1) born (s.last_epoch + length s.requests)
  left_it born few =
      let it = with_other settings s.clock s.workers s.entries (births s) (s.last_epoch + length s.requests) w (left (worker s w)) numbered refl (numbered.slices w) in
      record { sum = it.sum; bound = it.bound; slices = it.slices; born_bound = few; epochs = it.epochs; number = it.number }

  acted : GoesOn settings s w → Numbered settings (acts code settings w g s).clock (acts code settings w g s).workers (s.entries + 1) (births (acts code settings w g s))
      ((acts code settings w g s).last_epoch + length (acts code settings w g s).requests)
  acted goes =
      let one : 1 ≤ quantum - (worker s w).slice = let a = numbered.slices w in let b = goes.slice_left in omega arith in
      acts_all code settings w g s (λ t. Numbered settings t.clock t.workers (s.entries + 1) (births t) (t.last_epoch + length t.requests)) whole (record {
        stays = one_more settings s.clock s.workers s.entries (births s) _ (births s) _ numbered numbered.born_bound numbered.epochs;
        resumed = ran 1 _ _ one (let b = numbered.born_bound in omega (arith, length-set {A = Goroutine}));
        passed = λ cs ms. ran 1 _ _ one (let b = numbered.born_bound in omega (arith, length-set {A = Goroutine}));
        woke = λ cs ms h blocked. ran 1 _ _ one (let b = numbered.born_bound in omega (arith, length-set {A = Goroutine}));
        blocked = λ cs ms. left_it _ (let b = numbered.born_bound in omega (arith, length-set {A = Goroutine}));
        faulted = λ cause cs ms some. left_it _ (let b = numbered.born_bound in omega (arith, length-set {A = Goroutine}));
        bore = λ function room. ran 1 _ _ one (let b = numbered.born_bound in omega (arith, length-set {A = Goroutine}, length_push s.goroutines (child_of code function g s)));
      })

pub step_numbered : (code : Code) (settings : Settings) (s : State) (entry : Entry) → IsWhole s → IsNumbered settings s → May code settings s entry → IsNumbered settings (after code settings s entry)
unfolding after
step_numbered code settings s (Start w g) whole n may =
    let it = with_other settings s.clock s.workers s.entries (births s) (s.last_epoch + length s.requests) w (started g (worker s w)) n refl (omega arith) in
    record { sum = it.sum; bound = it.bound; slices = it.slices; born_bound = let b = n.born_bound in omega (arith, length-set {A = Goroutine}); epochs = it.epochs; number = it.number }
step_numbered code settings s (Run w g m) whole n may =
    ran code settings w g s whole n may.runs m _ _ (run_extent code settings s w g m may.is_next) (let b = n.born_bound in omega (arith, length-set {A = Goroutine}))
step_numbered code settings s (Op w g) whole n may = acted code settings w g s whole n may.runs (op_goes code settings s w g may.is_next)
step_numbered code settings s (Tick w g) whole n may =
    with_other settings s.clock s.workers s.entries (births s) (s.last_epoch + length s.requests) w (ticked (worker s w)) n refl (n.slices w)
step_numbered code settings s (Park w g) whole n may = left_it code settings w g s whole n may.runs _ (let b = n.born_bound in omega (arith, length-set {A = Goroutine}))
step_numbered code settings s (Open epoch room) whole n may =
    one_more settings s.clock s.workers s.entries (births s) _ (births s) _ n n.born_bound
    (let a = n.epochs in let b = next_request settings s may.is_asked in let c = may.next_epoch in omega arith)
step_numbered code settings s (Refuse room m) whole n may =
    one_more settings s.clock s.workers s.entries (births s) _ (births s) _ n n.born_bound
    (let a = n.epochs in let b = next_request settings s may.is_asked in omega arith)
step_numbered code settings s (Record actor g) whole n may =
    one_more settings s.clock s.workers s.entries (births s) _ _ _ n (let b = n.born_bound in omega (arith, length-set {A = Goroutine})) n.epochs
step_numbered code settings s (Close epoch) whole n may = one_more settings s.clock s.workers s.entries (births s) _ (births s) _ n n.born_bound n.epochs

no_instructions : (n : ℕ) → sum_by (λ (v : Worker). v.instructions) (replicate n resting) ≡ 0
no_instructions zero = refl
no_instructions (suc n) = let rest = no_instructions n in omega (arith, sum_by-cons (λ (v : Worker). v.instructions) resting (replicate n resting))

no_slice : (n w : ℕ) → (get_or (replicate n resting) w resting).slice ≡ 0
no_slice zero w = refl
no_slice (suc n) zero = refl
no_slice (suc n) (suc w) = no_slice n w

pub all_there : (n : ℕ) → length (replicate n resting) ≡ n
all_there zero = refl
all_there (suc n) = ap suc (all_there n)

pub first_numbered : (code : Code) (settings : Settings) → 1 ≤ settings.cells → IsNumbered settings (first code settings)
first_numbered code settings some = record {
  sum = sym (no_instructions settings.workers);
  bound = omega arith;
  slices = λ w. let none = no_slice settings.workers w in omega arith;
  born_bound = some;
  epochs = omega arith;
  number = all_there settings.workers;
}
