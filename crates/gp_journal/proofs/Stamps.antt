-- Clocks and epochs that goroutines carry aren't above those of the state.
use Rattle.std.proofs.Common.{◌≡◌, ◌⊎◌, ℕ, ◌+◌, ◌≤◌, List, [], ◌∷◌, get_or, set, take, refl, inl, inr, arith, zero, suc}
use Rattle.gp_journal.specs.declared.entry.Entry.{Entry}
use Rattle.gp_journal.specs.declared.entry.Entry.TheVariants.{Start, Run, Op, Tick, Park, Open, Refuse, Record, Close}
use Rattle.gp_journal.specs.declared.goroutine.Goroutine.{Goroutine}
use Rattle.gp_journal.specs.declared.settings.Settings.{Settings}
use Rattle.gp_journal.specs.State.{Code, State, nobody, goroutine, first}
use Rattle.gp_journal.specs.May.{May}
use Rattle.gp_journal.specs.Effect.{passed, unmarked, blocked_at, woken_at, child_of, acts, after}
use Rattle.gp_journal.specs.Run.{AreLegal, IsLegal, after_all, last}
use Rattle.gp_journal.specs.NumberLaws.{HasComeTo, ClocksAreBelow, OrdersEpochs, EpochsAreOrdered}
use Rattle.gp_journal.proofs.Places.{changed, pushed}
use Rattle.gp_journal.proofs.Whole.{IsWhole}
use Rattle.gp_journal.proofs.Acts.{acts_all}
use Rattle.gp_journal.proofs.Steps.{step_whole}
use Rattle.gp_journal.proofs.Law.{first_whole, all_whole, prefix_legal}

-- the clocks and the count of a goroutine, of each of them
record Come (clock : ℕ) (x : Goroutine) : Type 0 where
  blocked : x.blocked ≤ clock
  woken : x.woken ≤ clock
  count : x.count ≤ clock

abbrev AllCome : ℕ → List Goroutine → Type 0
AllCome clock gs = (g : ℕ) → Come clock (get_or gs g nobody)

abbrev HaveCome : State → Type 0
HaveCome s = AllCome s.clock s.goroutines

later : (clock now : ℕ) (gs : List Goroutine) → clock ≤ now → AllCome clock gs → AllCome now gs
later clock now gs le come g = let a = come g in record { blocked = omega arith; woken = omega arith; count = omega arith }

-- another goroutine at a number, with clocks that have come
with_other : (clock : ℕ) (gs : List Goroutine) (g : ℕ) (y : Goroutine) → AllCome clock gs → Come clock y → AllCome clock (set gs g y)
with_other clock gs g y come new = changed (λ k x. Come clock x) nobody gs g y new come

-- one with the clocks and the count that it had
same_clocks : (clock : ℕ) (gs : List Goroutine) (g : ℕ) (y : Goroutine) → AllCome clock gs → y.blocked ≡ (get_or gs g nobody).blocked → y.woken ≡ (get_or gs g nobody).woken → y.count ≡ (get_or gs g nobody).count → AllCome clock (set gs g y)
same_clocks clock gs g y come blocked woken count = with_other clock gs g y come (let a = come g in record { blocked = omega arith; woken = omega arith; count = omega arith })

passer : (code : Code) (clock : ℕ) (gs : List Goroutine) (g n : ℕ) → AllCome clock gs → AllCome (clock + n) (set gs g (passed code n (get_or gs g nobody)))
passer code clock gs g n come =
    with_other (clock + n) gs g (passed code n (get_or gs g nobody)) (later clock (clock + n) gs (omega arith) come)
    (let a = come g in record { blocked = omega arith; woken = omega arith; count = omega arith })

acted : (code : Code) (settings : Settings) (w g : ℕ) (s : State) → IsWhole s → HaveCome s → HaveCome (acts code settings w g s)
acted code settings w g s whole come =
    acts_all code settings w g s HaveCome whole (record {
      stays = come;
      resumed = passer code s.clock _ g 1 (same_clocks s.clock s.goroutines g (unmarked (goroutine s g)) come refl refl refl);
      passed = λ cs ms. passer code s.clock _ g 1 come;
      woke = λ cs ms h blocked. passer code s.clock _ g 1
          (with_other s.clock s.goroutines h (woken_at s.clock (goroutine s h)) come (let a = come h in record { blocked = omega arith; woken = omega arith; count = omega arith }));
      blocked = λ cs ms. with_other s.clock s.goroutines g (blocked_at s.clock (goroutine s g)) come (let a = come g in record { blocked = omega arith; woken = omega arith; count = omega arith });
      faulted = λ cause cs ms some. same_clocks s.clock s.goroutines g _ come refl refl refl;
      bore = λ function room. passer code s.clock _ g 1
          (pushed (λ k x. Come s.clock x) nobody s.goroutines (child_of code function g s) (record { blocked = omega arith; woken = omega arith; count = omega arith }) come);
    })

step_come : (code : Code) (settings : Settings) (s : State) (entry : Entry) → IsWhole s → HaveCome s → May code settings s entry → HaveCome (after code settings s entry)
unfolding after
step_come code settings s (Start w g) whole come may = same_clocks s.clock s.goroutines g _ come refl refl refl
step_come code settings s (Run w g n) whole come may = passer code s.clock s.goroutines g n come
step_come code settings s (Op w g) whole come may = acted code settings w g s whole come
step_come code settings s (Tick w g) whole come may = come
step_come code settings s (Park w g) whole come may = same_clocks s.clock s.goroutines g _ come refl refl refl
step_come code settings s (Open epoch room) whole come may = come
step_come code settings s (Refuse room n) whole come may = come
step_come code settings s (Record actor g) whole come may = same_clocks s.clock s.goroutines g _ come refl refl refl
step_come code settings s (Close epoch) whole come may = come

all_come : (code : Code) (settings : Settings) (s : State) (entries : List Entry) → IsWhole s → HaveCome s → AreLegal code settings s entries → HaveCome (after_all code settings s entries)
all_come code settings s [] whole come legal = come
all_come code settings s (entry ∷ entries) whole come legal =
    all_come code settings (after code settings s entry) entries (step_whole code settings s entry whole legal.0) (step_come code settings s entry whole come legal.0) legal.1

first_come : (code : Code) (settings : Settings) → HaveCome (first code settings)
first_come code settings zero = record { blocked = omega arith; woken = omega arith; count = omega arith }
first_come code settings (suc g) = record { blocked = omega arith; woken = omega arith; count = omega arith }

-- at the end of a legal journal
pub last_come : (code : Code) (settings : Settings) (journal : List Entry) (g : ℕ) → IsLegal code settings journal → HasComeTo (last code settings journal) g
last_come code settings journal g legal =
    let come = all_come code settings (first code settings) journal (first_whole code settings) (first_come code settings) legal g in
    record { blocked = come.blocked; woken = come.woken; count = come.count }

pub clocks_are_below : ClocksAreBelow
clocks_are_below code settings journal k g legal = last_come code settings (take k journal) g (prefix_legal code settings (first code settings) k journal legal)

orders : (active last_epoch : ℕ) → (active ≡ 0) ⊎ (active ≡ last_epoch) → active ≤ last_epoch
orders active last_epoch (inl none) = omega arith
orders active last_epoch (inr same) = omega arith

-- at the end of a legal journal
pub last_ordered : (code : Code) (settings : Settings) (journal : List Entry) → IsLegal code settings journal → OrdersEpochs (last code settings journal)
last_ordered code settings journal legal =
    let s = last code settings journal in
    let whole = all_whole code settings (first code settings) journal (first_whole code settings) legal in
    record { none_or_last = whole.is_last; in_order = orders s.active s.last_epoch whole.is_last }

pub epochs_are_ordered : EpochsAreOrdered
epochs_are_ordered code settings journal k legal = last_ordered code settings (take k journal) (prefix_legal code settings (first code settings) k journal legal)
