-- The generated program lies in the limits of programs.
use Rattle.std.proofs.Common.{◌≡◌, ◌+◌, ◌*◌, ◌%◌, ◌/◌, ◌==◌, if◌then◌else◌, ◌<◌, ◌≤◌, ℕ, zero, suc, Bool, true, false, List, [], ◌∷◌, ◌++◌, length, map, refl, sym, subst, nat_le, codes, arith, lit≤}
use Rattle.std.proofs.lemmas.Bool.Decides.{nat_tests}
use Rattle.std.specs.Prelude.{All}
use Rattle.std.specs.List.{list_all, IsDistinct}
use Rattle.std.specs.Str.{bytes_eq}
use Rattle.std.specs.Cmp.{nat_eq_equiv}
use Rattle.std.specs.Cmp.Lexicographic.{lists_equiv}
use Rattle.std.specs.Fmt.{digits, digits_onto, digit_glyph, decimal}
use Rattle.std.proofs.lemmas.List.Elements.{All-append, All-nil, All-from_recursion}
use Rattle.std.proofs.lemmas.List.Sums.{AllPass-from_list_all}
use Rattle.std.proofs.lemmas.Map.Made.{IsDistinct-from_count}
use Rattle.gp_isa.specs.declared.parts.Parts.{Parts}
use Rattle.gp_isa.specs.declared.parts.Function.{Function}
use Rattle.gp_isa.specs.declared.parts.ChannelDecl.{ChannelDecl}
use Rattle.gp_isa.specs.declared.parts.MutexDecl.{MutexDecl}
use Rattle.gp_isa.specs.declared.parts.LabelSet.{LabelSet}
use Rattle.gp_isa.specs.declared.statement.Stmt.{Stmt}
use Rattle.gp_isa.specs.declared.statement.What.TheVariants as what
use Rattle.gp_isa.specs.Limits.{most_loops}
use Rattle.gp_isa.specs.Statement.{action_of, most_bodies}
use Rattle.gp_isa.specs.InLimits.{AreNames, IsPair, ArePairs, IsAction, AreStatements, AreInLimits}
use Rattle.gp_isa.proofs.Actions.{action-work, action-call, action-loop, action-send, action-recv, action-lock, action-unlock, action-spawn, action-labels}
use Rattle.gp_gen.specs.Generated.{each_below, statement, caller_work, callee_work, spawn_of, main_function, caller_of, callee_of, label_set_of, done_channel, generated}

-- what holds of each number below one holds of all that is told of them
pub each_fits : {X : Type 0} (P : X → Type 0) (of : ℕ → X) (n : ℕ) → ((k : ℕ) → k < n → P (of k)) → All P (each_below of n)
each_fits P of zero fits = All-nil P
each_fits P of (suc n) fits =
    All-append P (each_below of n) (of n ∷ []) (each_fits P of n (λ k below. fits k (omega arith)))
    (All-from_recursion P (of n ∷ []) (fits n (omega arith), tt))

-- ---- names

-- names that are told apart by a count, and are short by a test, are those of a space
named : (names : List (List ℕ)) → list_all (λ name. nat_le (length name) 64) names ≡ true → IsDistinct bytes_eq names → AreNames names
named names short distinct = record {
  short = λ k d below. let test = AllPass-from_list_all (λ name. nat_le (length name) 64) names short k d below in grind (arith, nat_tests);
  distinct = distinct;
}

function_names : (n q : ℕ) → AreNames (map (λ (f : Function). f.name) (generated n q).functions)
unfolding generated digits
function_names n q = named _ refl (IsDistinct-from_count (lists_equiv nat_eq_equiv) _ refl)

channel_names : (n q : ℕ) → AreNames (map (λ (c : ChannelDecl). c.name) (generated n q).channels)
unfolding generated
channel_names n q = named _ refl (IsDistinct-from_count (lists_equiv nat_eq_equiv) _ refl)

mutex_names : (n q : ℕ) → AreNames (map (λ (m : MutexDecl). m.name) (generated n q).mutexes)
unfolding generated digits
mutex_names n q = named _ refl (IsDistinct-from_count (lists_equiv nat_eq_equiv) _ refl)

label_names : (n q : ℕ) → AreNames (map (λ (l : LabelSet). l.name) (generated n q).labels)
unfolding generated digits
label_names n q = named _ refl (IsDistinct-from_count (lists_equiv nat_eq_equiv) _ refl)

-- ---- label sets

-- a number has 64 digits at most
digits_short : (k n : ℕ) (acc : List ℕ) → length (digits_onto k 10 false n acc) ≤ k + length acc
digits_short zero n acc = omega arith
digits_short (suc k) n acc = by (n / 10 == 0) (digits_short k (n / 10) (digit_glyph false (n % 10) ∷ acc))
  where
    by : (b : Bool) → length (digits_onto k 10 false (n / 10) (digit_glyph false (n % 10) ∷ acc)) ≤ k + length (digit_glyph false (n % 10) ∷ acc)
        → length (if b then digit_glyph false (n % 10) ∷ acc else digits_onto k 10 false (n / 10) (digit_glyph false (n % 10) ∷ acc)) ≤ suc k + length acc
    by true rest = omega arith
    by false rest = omega arith

short_number : (j : ℕ) → length (decimal j) ≤ 64
unfolding digits
short_number j = digits_short 64 j []

one_pair : (j : ℕ) → IsPair (record { key = codes "kind"; value = decimal j })
one_pair j = record { named = lit≤ tt; key = lit≤ tt; value = short_number j }

pairs_fit : (j : ℕ) → j < 16 → ArePairs (label_set_of j).pairs
pairs_fit j below = record {
  few = lit≤ tt;
  each = All-from_recursion IsPair (label_set_of j).pairs (one_pair j, tt);
  rising = λ k d more. absurd (omega arith);
}

-- ---- statements

-- how much a program declares
pub record HasAll (p : Parts) : Type 0 where
  pub functions : length p.functions ≡ 33
  pub channels : length p.channels ≡ 1
  pub mutexes : length p.mutexes ≡ 4
  pub labels : length p.labels ≡ 16

module _ (p : Parts) (has : HasAll p) where
  abbrev Acts : ℕ → Stmt → Type 0
  Acts room s = IsAction p (AreStatements p room) (action_of s)

  main_fits : (q : ℕ) → 1 ≤ q → AreStatements p most_bodies (main_function q).body
  main_fits q least =
      All-from_recursion (Acts most_loops) (main_function q).body (
        subst (IsAction p (AreStatements p most_loops)) (sym (action-loop q (each_below spawn_of 16) 40))
            (least, each_fits (Acts 7) spawn_of 16 (λ j below. let few = has.functions in subst (IsAction p (AreStatements p 7)) (sym (action-spawn (1 + j))) (omega arith))),
        (
          subst (IsAction p (AreStatements p most_loops)) (sym (action-loop (16 * q) (statement 42 (what.Recv 0) ∷ []) 43))
              (omega arith, All-from_recursion (Acts 7) (statement 42 (what.Recv 0) ∷ []) (let few = has.channels in subst (IsAction p (AreStatements p 7)) (sym (action-recv 0)) (omega arith), tt)),
          tt,
        ),
      )

  caller_fits : (n j : ℕ) → j < 16 → AreStatements p most_bodies (caller_of n j).body
  caller_fits n j below =
      let turn : List Stmt = statement (45 + 8 * j + 3) (what.Work (caller_work n j)) ∷ statement (45 + 8 * j + 4) (what.Call (17 + j)) ∷ [] in
      let labels = has.labels in
      let functions = has.functions in
      let channels = has.channels in
      All-from_recursion (Acts most_loops) (caller_of n j).body (
        subst (IsAction p (AreStatements p most_loops)) (sym (action-labels (1 + j))) (omega arith, omega arith),
        (
          subst (IsAction p (AreStatements p most_loops)) (sym (action-loop 4 turn (45 + 8 * j + 5))) (
            omega arith,
            All-from_recursion (Acts 7) turn (
              subst (IsAction p (AreStatements p 7)) (sym (action-work (caller_work n j))) (omega arith),
              (subst (IsAction p (AreStatements p 7)) (sym (action-call (17 + j))) (omega arith), tt),
            ),
          ),
          (subst (IsAction p (AreStatements p most_loops)) (sym (action-send 0)) (omega arith), tt),
        ),
      )

  callee_fits : (n j : ℕ) → j < 16 → AreStatements p most_bodies (callee_of n j).body
  callee_fits n j below =
      let mutexes = has.mutexes in
      All-from_recursion (Acts most_loops) (callee_of n j).body (
        subst (IsAction p (AreStatements p most_loops)) (sym (action-lock (j % 4))) (omega arith),
        (
          subst (IsAction p (AreStatements p most_loops)) (sym (action-work (callee_work n j))) (omega arith),
          (subst (IsAction p (AreStatements p most_loops)) (sym (action-unlock (j % 4))) (omega arith), tt),
        ),
      )

  abbrev Fits : Function → Type 0
  Fits f = AreStatements p most_bodies f.body

  functions_fit : (n q : ℕ) → 1 ≤ q → All Fits (main_function q ∷ (each_below (caller_of n) 16 ++ each_below (callee_of n) 16))
  functions_fit n q least =
      All-append Fits (main_function q ∷ []) (each_below (caller_of n) 16 ++ each_below (callee_of n) 16)
      (All-from_recursion Fits (main_function q ∷ []) (main_fits q least, tt))
      (All-append Fits (each_below (caller_of n) 16) (each_below (callee_of n) 16)
      (each_fits Fits (caller_of n) 16 (caller_fits n)) (each_fits Fits (callee_of n) 16 (callee_fits n)))

pub has_all : (n q : ℕ) → HasAll (generated n q)
unfolding generated
has_all n q = record { functions = refl; channels = refl; mutexes = refl; labels = refl }

pub in_limits : (n q : ℕ) → 1 ≤ q → q ≤ 63 → AreInLimits (generated n q)
unfolding generated
in_limits n q least most =
    let has = has_all n q in
    record {
      functions = lit≤ tt;
      function_names = function_names n q;
      statements = functions_fit (generated n q) has n q least;
      channels = lit≤ tt;
      channel_names = channel_names n q;
      capacities = All-from_recursion (λ (c : ChannelDecl). c.capacity ≤ 65535) (done_channel q ∷ []) (omega arith, tt);
      mutexes = lit≤ tt;
      mutex_names = mutex_names n q;
      labels = lit≤ tt;
      label_names = label_names n q;
      pairs = each_fits (λ (l : LabelSet). ArePairs l.pairs) label_set_of 16 pairs_fit;
    }
