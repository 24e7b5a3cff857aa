-- Where no function can call itself, following calls as deep as there are functions gives all points.
use Rattle.std.proofs.Common.{◌≡◌, ◌⊎◌, ℕ, zero, suc, ◌+◌, ◌<◌, ◌≤◌, Bool, true, false, ◌||◌, ◌==◌, List, [], ◌∷◌, ◌++◌, length, map, Option, Some, None, flat_map, eqb, refl, sym, ap, ap₂, ◌∙◌, subst, inl, inr, arith, true≢false, eqb-true, eq-eqb}
use Rattle.std.specs.Prelude.{slice_get}
use Rattle.std.specs.List.{list_any, AllByRecursion, IsDistinct}
use Rattle.std.proofs.lemmas.Bool.{or_left, or_right, or_cases, cases_lt}
use Rattle.std.proofs.lemmas.List.Folds.{list_any-append}
use Rattle.std.proofs.lemmas.Map.Steps.{length-le_from_distinct_below}
use Rattle.gp_isa.specs.declared.parts.Function.{Function}
use Rattle.gp_isa.specs.declared.parts.Parts.{Parts}
use Rattle.gp_isa.specs.declared.statement.Stmt.{Stmt}
use Rattle.gp_isa.specs.declared.statement.What.TheOpen.{Work, Call, Loop, Send, Recv, Lock, Unlock, Spawn, Labels}
use Rattle.gp_isa.specs.Statement.{Action, action_of, line_of, most_bodies}
use Rattle.gp_isa.specs.Trace.{Point, called_at, repeated, points_at, points_of_body, body_of, points_of, trace_within, trace}
use Rattle.gp_isa.specs.Calls.{calls_of, calls_in, callees, reaches, is_recursive, first_from, first_recursive, TracesAreWhole, TracesFollowCalls}

-- a number stands in a list
abbrev pub In : ℕ → List ℕ → Type 0
In h xs = list_any (λ g. h == g) xs ≡ true

pub in_front : (h : ℕ) (xs ys : List ℕ) → In h xs → In h (xs ++ ys)
in_front h xs ys e = list_any-append (λ g. h == g) xs ys ∙ or_left _ _ e

pub in_back : (h : ℕ) (xs ys : List ℕ) → In h ys → In h (xs ++ ys)
in_back h xs ys e = list_any-append (λ g. h == g) xs ys ∙ or_right _ _ e

-- The points of statements hang on the points of the functions that they call, and on no other.
module _ (calls calls' : ℕ → List Point) (f : ℕ) where
  abbrev pub Agrees : List ℕ → Type 0
  Agrees called = (h : ℕ) → In h called → calls h ≡ calls' h

  module _ (inner inner' : List Stmt → List Point) (within : List Stmt → List ℕ) (same : (body : List Stmt) → Agrees (within body) → inner body ≡ inner' body) where
    same_action : (line : ℕ) (a : Action) → Agrees (calls_of within a) → points_at calls inner f line a ≡ points_at calls' inner' f line a
    same_action line (Work n) agrees = refl
    same_action line (Call h) agrees = ap (map (called_at f line)) (agrees h (or_left (h == h) false (eq-eqb h h refl)))
    same_action line (Loop n body end) agrees = ap (repeated n) (same body agrees)
    same_action line (Send c) agrees = refl
    same_action line (Recv c) agrees = refl
    same_action line (Lock m) agrees = refl
    same_action line (Unlock m) agrees = refl
    same_action line (Spawn h) agrees = refl
    same_action line (Labels s) agrees = refl

    same_body : (body : List Stmt) → Agrees (flat_map (λ s. calls_of within (action_of s)) body) →
        flat_map (λ s. points_at calls inner f (line_of s) (action_of s)) body ≡ flat_map (λ s. points_at calls' inner' f (line_of s) (action_of s)) body
    same_body [] agrees = refl
    same_body (s ∷ body) agrees =
        ap₂ (λ xs ys. xs ++ ys)
        (same_action (line_of s) (action_of s) (λ h e. agrees h (in_front h (calls_of within (action_of s)) _ e)))
        (same_body body (λ h e. agrees h (in_back h (calls_of within (action_of s)) _ e)))

  pub same_points : (deep : ℕ) (body : List Stmt) → Agrees (calls_in deep body) → points_of_body calls f deep body ≡ points_of_body calls' f deep body
  same_points zero body agrees = refl
  same_points (suc deep) body agrees = same_body (points_of_body calls f deep) (points_of_body calls' f deep) (calls_in deep) (same_points deep) body agrees

or_more : (a b c : Bool) → (b ≡ true → c ≡ true) → (a || b) ≡ true → (a || c) ≡ true
or_more true b c more e = refl
or_more false b c more e = more e

-- a test that passes more
any_more : (p q : ℕ → Bool) → ((x : ℕ) → p x ≡ true → q x ≡ true) → (xs : List ℕ) → list_any p xs ≡ true → list_any q xs ≡ true
any_more p q more [] e = absurd (true≢false (sym e))
any_more p q more (x ∷ xs) e = at (or_cases (p x) (list_any p xs) e) (any_more p q more xs)
  where
    at : (p x ≡ true) ⊎ (list_any p xs ≡ true) → (list_any p xs ≡ true → list_any q xs ≡ true) → (q x || list_any q xs) ≡ true
    at (inl here) rest = or_left (q x) (list_any q xs) (more x here)
    at (inr there) rest = or_right (q x) (list_any q xs) (rest there)

all_more : {P Q : ℕ → Type 0} → ((x : ℕ) → P x → Q x) → (xs : List ℕ) → AllByRecursion P xs → AllByRecursion Q xs
all_more more [] all = tt
all_more more (x ∷ xs) all = (more x all.0, all_more more xs all.1)

slice_past : {X : Type 0} (xs : List X) (k : ℕ) → length xs ≤ k → slice_get xs k ≡ None
slice_past [] k le = refl
slice_past (x ∷ xs) zero le = absurd (omega arith)
slice_past (x ∷ xs) (suc k) le = slice_past xs k (omega arith)

first_none : (test : ℕ → Bool) (from n : ℕ) → first_from test from n ≡ None → (k : ℕ) → from ≤ k → k < from + n → test k ≡ false
first_none test from zero e k low high = absurd (omega arith)
first_none test from (suc n) e k low high = at (test from) refl e (first_none test (suc from) n)
  where
    at : (b : Bool) → test from ≡ b → (elim b as (λ _. Option ℕ) [ true ↦ Some from | false ↦ first_from test (suc from) n ]) ≡ None →
        (first_from test (suc from) n ≡ None → (j : ℕ) → suc from ≤ j → j < suc from + n → test j ≡ false) → test k ≡ false
    at true here e rest = absurd (cc)
    at false here e rest = where_is (cases_lt from k)
      where
        where_is : (from < k) ⊎ (k ≤ from) → test k ≡ false
        where_is (inl later) = rest e k later (omega arith)
        where_is (inr first) = subst (λ j. test j ≡ false) (omega arith) here

module _ (parts : Parts) (sound : first_recursive parts ≡ None) where
  abbrev count : ℕ
  count = length parts.functions

  none_calls_itself : (f : ℕ) → f < count → is_recursive parts f ≡ false
  none_calls_itself f below = first_none (is_recursive parts) 0 count sound f (omega arith) (omega arith)

  one_more : (n f h : ℕ) → reaches parts n f h ≡ true → reaches parts (suc n) f h ≡ true
  unfolding reaches
  one_more zero f h e = any_more (λ g. h == g) (λ g. (h == g) || reaches parts zero g h) (λ g here. or_left (h == g) _ here) (callees parts f) e
  one_more (suc n) f h e = any_more (λ g. (h == g) || reaches parts n g h) (λ g. (h == g) || reaches parts (suc n) g h) (λ g there. or_more (h == g) _ _ (one_more n g h) there) (callees parts f) e

  more_steps : (n m f h : ℕ) → n ≤ m → reaches parts n f h ≡ true → reaches parts m f h ≡ true
  more_steps n zero f h le e = subst (λ k. reaches parts k f h ≡ true) (omega arith) e
  more_steps n (suc m) f h le e = at (cases_lt m n) (λ less. one_more m f h (more_steps n m f h less e))
    where
      at : (m < n) ⊎ (n ≤ m) → (n ≤ m → reaches parts (suc m) f h ≡ true) → reaches parts (suc m) f h ≡ true
      at (inl all) rest = subst (λ k. reaches parts k f h ≡ true) (omega arith) e
      at (inr less) rest = rest less

  called : (f h : ℕ) → In h (callees parts f) → reaches parts zero f h ≡ true
  unfolding reaches
  called f h e = e

  -- who reaches f reaches what f calls
  goes_on : (n v f h : ℕ) → reaches parts n v f ≡ true → In h (callees parts f) → reaches parts (suc n) v h ≡ true
  unfolding reaches
  goes_on zero v f h e calls = any_more (λ g. f == g) (λ g. (h == g) || reaches parts zero g h) (λ g here. or_right (h == g) _ (subst (λ k. reaches parts zero k h ≡ true) (eqb-true f g here) (called f h calls))) (callees parts v) e
  goes_on (suc n) v f h e calls =
      any_more (λ g. (f == g) || reaches parts n g f) (λ g. (h == g) || reaches parts (suc n) g h)
      (λ g there. by g (or_cases (f == g) (reaches parts n g f) there) (goes_on n g f h)) (callees parts v) e
    where
      by : (g : ℕ) → ((f == g) ≡ true) ⊎ (reaches parts n g f ≡ true) → (reaches parts n g f ≡ true → In h (callees parts f) → reaches parts (suc n) g h ≡ true) → ((h == g) || reaches parts (suc n) g h) ≡ true
      by g (inl here) rest = or_right (h == g) _ (subst (λ k. reaches parts (suc n) k h ≡ true) (eqb-true f g here) (more_steps zero (suc n) f h (omega arith) (called f h calls)))
      by g (inr there) rest = or_right (h == g) _ (rest there calls)

  -- The functions that led to f, each of which can call it, none twice.
  record Chain (vs : List ℕ) (f : ℕ) : Type 0 where
    distinct : IsDistinct eqb (f ∷ vs)
    below : (q : ℕ) → In q (f ∷ vs) → q < count
    leads : AllByRecursion (λ v. (reaches parts (length vs) v f ≡ true) × (v < count)) vs

  short : (vs : List ℕ) (f : ℕ) → Chain vs f → suc (length vs) ≤ count
  short vs f chain = length-le_from_distinct_below (f ∷ vs) count chain.distinct chain.below

  -- a function that reaches itself can't be there
  no_return : (n v h : ℕ) → v < count → n ≤ count → reaches parts n v h ≡ true → eqb h v ≡ false
  no_return n v h there le e = at (eqb h v) refl
    where
      at : (b : Bool) → eqb h v ≡ b → b ≡ false
      at false same = refl
      at true same =
          let back = more_steps n count v v le (subst (λ k. reaches parts n v k ≡ true) (eqb-true h v same) e) in
          absurd (true≢false (sym back ∙ none_calls_itself v there))

  next : (vs : List ℕ) (f h : ℕ) → Chain vs f → In h (callees parts f) → h < count → Chain (f ∷ vs) h
  unfolding IsDistinct
  next vs f h chain calls there =
      let here : f < count = chain.below f (or_left (f == f) _ (eq-eqb f f refl)) in
      let few = short vs f chain in record {
        distinct = (
          (no_return zero f h here (omega arith) (called f h calls), all_more (λ v l. no_return (suc (length vs)) v h l.1 few (goes_on (length vs) v f h l.0 calls)) vs chain.leads),
          chain.distinct,
        );
        below = λ q e. by q (or_cases (q == h) (list_any (λ g. q == g) (f ∷ vs)) e);
        leads = (
          (more_steps zero (suc (length vs)) f h (omega arith) (called f h calls), here),
          all_more (λ v l. (goes_on (length vs) v f h l.0 calls, l.1)) vs chain.leads,
        );
      }
    where
      by : (q : ℕ) → ((q == h) ≡ true) ⊎ In q (f ∷ vs) → q < count
      by q (inl same) = subst (λ k. k < count) (sym (eqb-true q h same)) there
      by q (inr older) = chain.below q older

  no_body : (f : ℕ) → count ≤ f → body_of parts f ≡ []
  no_body f past = ap (λ (o : Option Function). elim o as (λ _. List Stmt) [ Some function ↦ function.body | None ↦ [] ]) (slice_past parts.functions f past)

  -- where there is no such function there are no points
  no_points : (d f : ℕ) → count ≤ f → trace_within parts d f ≡ []
  unfolding trace_within
  no_points zero f past = ap (points_of_body (λ _. []) f most_bodies) (no_body f past)
  no_points (suc d) f past = ap (points_of_body (trace_within parts d) f most_bodies) (no_body f past)

  deep_enough : (d e : ℕ) (vs : List ℕ) (f : ℕ) → Chain vs f → count ≤ d + length vs → d ≤ e → trace_within parts d f ≡ trace_within parts e f
  unfolding trace_within
  deep_enough zero e vs f chain enough le = let few = short vs f chain in absurd (omega arith)
  deep_enough (suc d) zero vs f chain enough le = absurd (omega arith)
  deep_enough (suc d) (suc e) vs f chain enough le =
      same_points (trace_within parts d) (trace_within parts e) f most_bodies (body_of parts f)
      (λ h calls. by h calls (cases_lt h count) (deep_enough d e (f ∷ vs) h))
    where
      by : (h : ℕ) → In h (callees parts f) → (h < count) ⊎ (count ≤ h) → (Chain (f ∷ vs) h → count ≤ d + length (f ∷ vs) → d ≤ e → trace_within parts d h ≡ trace_within parts e h) → trace_within parts d h ≡ trace_within parts e h
      by h calls (inl there) rest = rest (next vs f h chain calls there) (omega arith) (omega arith)
      by h calls (inr past) rest = no_points d h past ∙ sym (no_points e h past)

  begins : (f : ℕ) → f < count → Chain [] f
  unfolding IsDistinct
  begins f there = record {
    distinct = (tt, tt);
    below = λ q e. by q (or_cases (q == f) false e);
    leads = tt;
  }
    where
      by : (q : ℕ) → ((q == f) ≡ true) ⊎ (false ≡ true) → q < count
      by q (inl same) = subst (λ k. k < count) (sym (eqb-true q f same)) there
      by q (inr never) = absurd (true≢false (sym never))

  deeper : (e f : ℕ) → count ≤ e → trace_within parts count f ≡ trace_within parts e f
  deeper e f le = at (cases_lt f count)
    where
      at : (f < count) ⊎ (count ≤ f) → trace_within parts count f ≡ trace_within parts e f
      at (inl there) = deep_enough count e [] f (begins f there) (omega arith) le
      at (inr past) = no_points count f past ∙ sym (no_points e f past)

pub traces_are_whole : TracesAreWhole
unfolding trace
traces_are_whole parts more f program = sym (deeper parts program.none_recursive (length parts.functions + more) f (omega arith))

pub traces_follow_calls : TracesFollowCalls
unfolding trace trace_within
traces_follow_calls parts f program = deeper parts program.none_recursive (suc (length parts.functions)) f (omega arith)

-- So it is where no function can call itself, whatever else parts are.
pub calls_followed : (parts : Parts) → first_recursive parts ≡ None → (f : ℕ) → trace parts f ≡ points_of parts (trace parts) f
unfolding trace trace_within
calls_followed parts none f = deeper parts none (suc (length parts.functions)) f (omega arith)

-- a function that isn't there has no points
pub no_trace : (parts : Parts) → first_recursive parts ≡ None → (f : ℕ) → length parts.functions ≤ f → trace parts f ≡ []
unfolding trace
no_trace parts none f past = no_points parts none (length parts.functions) f past
