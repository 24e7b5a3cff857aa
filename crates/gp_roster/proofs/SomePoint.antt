-- The trace of each function of a checked program has a point.
use Rattle.std.proofs.Common.{◌≡◌, ◌⊎◌, ℕ, zero, suc, ◌+◌, ◌<◌, ◌≤◌, Bool, true, false, ◌||◌, ◌==◌, List, [], ◌∷◌, length, get_or, Option, Some, None, flat_map, eqb, refl, sym, ap, ◌∙◌, subst, inl, inr, arith, true≢false, eqb-true, eq-eqb, length-append}
use Rattle.std.specs.Prelude.{slice_get, nat_lt}
use Rattle.std.specs.List.{list_any, position, position_or_len, AllByRecursion, IsDistinct}
use Rattle.std.proofs.lemmas.Bool.{or_left, or_right, or_cases, or_parts, cases_lt, ltb-false, cases_Bool}
use Rattle.std.proofs.lemmas.List.{length-map, length-replicate}
use Rattle.std.proofs.lemmas.List.Elements.{All-head}
use Rattle.std.proofs.lemmas.List.Sums.{fails_before_first}
use Rattle.std.proofs.lemmas.Map.Steps.{length-le_from_distinct_below}
use Rattle.std.proofs.lemmas.Option.{slice_get_cases}
use Rattle.gp_isa.specs.declared.parts.Function.{Function}
use Rattle.gp_isa.specs.declared.parts.Parts.{Parts}
use Rattle.gp_isa.specs.declared.statement.Stmt.{Stmt}
use Rattle.gp_isa.specs.declared.statement.What.TheOpen.{Work, Call, Loop, Send, Recv, Lock, Unlock, Spawn, Labels}
use Rattle.gp_isa.specs.Checked.{loop_lacks, lacks_statement}
use Rattle.gp_isa.specs.InLimits.{IsAction, AreStatements, AreInLimits}
use Rattle.gp_isa.specs.Statement.{Action, action_of, line_of, most_bodies}
use Rattle.gp_isa.specs.Trace.{Local, Point, point_at, called_at, repeated, points_at, points_of_body, body_of, trace}
use Rattle.gp_isa.specs.Calls.{calls_of, calls_in, callees, reaches, is_recursive, IsProgram}
use Rattle.gp_isa.proofs.Depth.{In, in_front, traces_follow_calls}
use Rattle.gp_isa.proofs.First.{each_fails}
use Rattle.gp_isa.proofs.Named.{among_there}

-- ---- statements have points where the functions that they call have

module _ (parts : Parts) (calls : ℕ → List Point) (f : ℕ) where
  abbrev HavePoints : List ℕ → Type 0
  HavePoints called = (h : ℕ) → In h called → 0 < length (calls h)

  turns : (n : ℕ) (points : List Point) → 1 ≤ n → 0 < length points → 0 < length (repeated n points)
  turns zero points some has = absurd (omega arith)
  turns (suc n) points some has = omega (arith, length-append points (repeated n points))

  module _ (deep : ℕ) (inner : (body : List Stmt) → AreStatements parts deep body → lacks_statement deep body ≡ false → HavePoints (calls_in deep body) → 0 < length (points_of_body calls f deep body)) where
    action_points : (line : ℕ) (a : Action) → IsAction parts (AreStatements parts deep) a → loop_lacks (lacks_statement deep) a ≡ false → HavePoints (calls_of (calls_in deep) a) →
        0 < length (points_at calls (points_of_body calls f deep) f line a)
    action_points line (Work n) is lacks have = omega (arith, length-replicate n (point_at f line Local))
    action_points line (Call h) is lacks have = let some = have h (or_left (h == h) false (eq-eqb h h refl)) in omega (arith, length-map (calls h) (called_at f line))
    action_points line (Loop n body end) is lacks have = turns n (points_of_body calls f deep body) is.0 (inner body is.1 lacks have)
    action_points line (Send c) is lacks have = omega arith
    action_points line (Recv c) is lacks have = omega arith
    action_points line (Lock m) is lacks have = omega arith
    action_points line (Unlock m) is lacks have = omega arith
    action_points line (Spawn h) is lacks have = omega arith
    action_points line (Labels s) is lacks have = omega arith

  body_points : (deep : ℕ) (body : List Stmt) → AreStatements parts deep body → lacks_statement deep body ≡ false → HavePoints (calls_in deep body) → 0 < length (points_of_body calls f deep body)
  body_points zero body are lacks have = absurd are
  body_points (suc deep) [] are lacks have = absurd (true≢false lacks)
  body_points (suc deep) (s ∷ body) are lacks have =
      let first = action_points deep (body_points deep) (line_of s) (action_of s)
      (All-head (λ (t : Stmt). IsAction parts (AreStatements parts deep) (action_of t)) s body are)
      (or_parts (loop_lacks (lacks_statement deep) (action_of s)) (list_any (λ t. loop_lacks (lacks_statement deep) (action_of t)) body) lacks).0
      (λ h e. have h (in_front h (calls_of (calls_in deep) (action_of s)) _ e)) in
      omega (arith, first, length-append (points_at calls (points_of_body calls f deep) f (line_of s) (action_of s)) (flat_map (λ t. points_at calls (points_of_body calls f deep) f (line_of t) (action_of t)) body))

-- ---- walks along calls end where no function can call itself

or_more : (a b c : Bool) → (b ≡ true → c ≡ true) → (a || b) ≡ true → (a || c) ≡ true
or_more true b c more e = refl
or_more false b c more e = more e

any_more : (p q : ℕ → Bool) → ((x : ℕ) → p x ≡ true → q x ≡ true) → (xs : List ℕ) → list_any p xs ≡ true → list_any q xs ≡ true
any_more p q more [] e = absurd (true≢false (sym e))
any_more p q more (x ∷ xs) e = at (or_cases (p x) (list_any p xs) e) (any_more p q more xs)
  where
    at : (p x ≡ true) ⊎ (list_any p xs ≡ true) → (list_any p xs ≡ true → list_any q xs ≡ true) → (q x || list_any q xs) ≡ true
    at (inl here) rest = or_left (q x) (list_any q xs) (more x here)
    at (inr there) rest = or_right (q x) (list_any q xs) (rest there)

all_more : {P Q : ℕ → Type 0} → ((x : ℕ) → P x → Q x) → (xs : List ℕ) → AllByRecursion P xs → AllByRecursion Q xs
all_more more [] all = tt
all_more more (x ∷ xs) all = (more x all.0, all_more more xs all.1)

module _ (parts : Parts) (limits : AreInLimits parts) (program : IsProgram parts) where
  abbrev count : ℕ
  count = length parts.functions

  one_more : (n f h : ℕ) → reaches parts n f h ≡ true → reaches parts (suc n) f h ≡ true
  unfolding reaches
  one_more zero f h e = any_more (λ g. h == g) (λ g. (h == g) || reaches parts zero g h) (λ g here. or_left (h == g) _ here) (callees parts f) e
  one_more (suc n) f h e = any_more (λ g. (h == g) || reaches parts n g h) (λ g. (h == g) || reaches parts (suc n) g h) (λ g there. or_more (h == g) _ _ (one_more n g h) there) (callees parts f) e

  more_steps : (n m f h : ℕ) → n ≤ m → reaches parts n f h ≡ true → reaches parts m f h ≡ true
  more_steps n zero f h le e = subst (λ k. reaches parts k f h ≡ true) (omega arith) e
  more_steps n (suc m) f h le e = at (cases_lt m n) (λ less. one_more m f h (more_steps n m f h less e))
    where
      at : (m < n) ⊎ (n ≤ m) → (n ≤ m → reaches parts (suc m) f h ≡ true) → reaches parts (suc m) f h ≡ true
      at (inl all) rest = subst (λ k. reaches parts k f h ≡ true) (omega arith) e
      at (inr less) rest = rest less

  called : (f h : ℕ) → In h (callees parts f) → reaches parts zero f h ≡ true
  unfolding reaches
  called f h e = e

  -- who reaches f reaches what f calls
  goes_on : (n v f h : ℕ) → reaches parts n v f ≡ true → In h (callees parts f) → reaches parts (suc n) v h ≡ true
  unfolding reaches
  goes_on zero v f h e calls = any_more (λ g. f == g) (λ g. (h == g) || reaches parts zero g h) (λ g here. or_right (h == g) _ (subst (λ k. reaches parts zero k h ≡ true) (eqb-true f g here) (called f h calls))) (callees parts v) e
  goes_on (suc n) v f h e calls =
      any_more (λ g. (f == g) || reaches parts n g f) (λ g. (h == g) || reaches parts (suc n) g h)
      (λ g there. by g (or_cases (f == g) (reaches parts n g f) there) (goes_on n g f h)) (callees parts v) e
    where
      by : (g : ℕ) → ((f == g) ≡ true) ⊎ (reaches parts n g f ≡ true) → (reaches parts n g f ≡ true → In h (callees parts f) → reaches parts (suc n) g h ≡ true) → ((h == g) || reaches parts (suc n) g h) ≡ true
      by g (inl here) rest = or_right (h == g) _ (subst (λ k. reaches parts (suc n) k h ≡ true) (eqb-true f g here) (more_steps zero (suc n) f h (omega arith) (called f h calls)))
      by g (inr there) rest = or_right (h == g) _ (rest there calls)

  -- a function that reaches itself can't be there
  no_return : (n v h : ℕ) → v < count → n ≤ count → reaches parts n v h ≡ true → eqb h v ≡ false
  no_return n v h there le e = at (cases_Bool (eqb h v))
    where
      at : (eqb h v ≡ true) ⊎ (eqb h v ≡ false) → eqb h v ≡ false
      at (inr apart) = apart
      at (inl same) =
          let back = more_steps n count v v le (subst (λ k. reaches parts n v k ≡ true) (eqb-true h v same) e) in
          absurd (true≢false (sym back ∙ each_fails (is_recursive parts) 0 count program.none_recursive v (omega arith) (omega arith)))

  -- The functions on the way to f, each of which can call it, none twice.
  record Walk (vs : List ℕ) (f : ℕ) : Type 0 where
    distinct : IsDistinct eqb (f ∷ vs)
    below : (q : ℕ) → In q (f ∷ vs) → q < count
    leads : AllByRecursion (λ v. (reaches parts (length vs) v f ≡ true) × (v < count)) vs

  short : (vs : List ℕ) (f : ℕ) → Walk vs f → suc (length vs) ≤ count
  short vs f walk = length-le_from_distinct_below (f ∷ vs) count walk.distinct walk.below

  begins : (f : ℕ) → f < count → Walk [] f
  unfolding IsDistinct
  begins f there = record { distinct = (tt, tt); below = λ q e. by q (or_cases (q == f) false e); leads = tt }
    where
      by : (q : ℕ) → ((q == f) ≡ true) ⊎ (false ≡ true) → q < count
      by q (inl same) = subst (λ k. k < count) (sym (eqb-true q f same)) there
      by q (inr never) = absurd (true≢false (sym never))

  next : (vs : List ℕ) (f h : ℕ) → Walk vs f → In h (callees parts f) → Walk (f ∷ vs) h
  unfolding IsDistinct
  next vs f h walk calls =
      let here : f < count = walk.below f (or_left (f == f) _ (eq-eqb f f refl)) in
      let few = short vs f walk in record {
        distinct = (
          (no_return zero f h here (omega arith) (called f h calls), all_more (λ v l. no_return (suc (length vs)) v h l.1 few (goes_on (length vs) v f h l.0 calls)) vs walk.leads),
          walk.distinct,
        );
        below = λ q e. by q (or_cases (q == h) (list_any (λ g. q == g) (f ∷ vs)) e);
        leads = (
          (more_steps zero (suc (length vs)) f h (omega arith) (called f h calls), here),
          all_more (λ v l. (goes_on (length vs) v f h l.0 calls, l.1)) vs walk.leads,
        );
      }
    where
      by : (q : ℕ) → ((q == h) ≡ true) ⊎ In q (f ∷ vs) → q < count
      by q (inl same) = subst (λ k. k < count) (sym (eqb-true q h same)) (among_there parts limits f h calls)
      by q (inr older) = walk.below q older

  -- ---- bodies

  abbrev Lacks : Function → Bool
  Lacks function = lacks_statement most_bodies function.body

  record IsFull (body : List Stmt) : Type 0 where
    are : AreStatements parts most_bodies body
    lacks : lacks_statement most_bodies body ≡ false

  full : (f : ℕ) → f < count → IsFull (body_of parts f)
  full f there = at (slice_get_cases parts.functions f).1
    where
      none_first : (b : Bool) → nat_lt (position_or_len Lacks parts.functions) count ≡ b → position Lacks parts.functions ≡ None → nat_lt (position_or_len Lacks parts.functions) count ≡ false
      none_first false e none = e
      none_first true e none = absurd (let clash : Some (position_or_len Lacks parts.functions) ≡ None = rw e at none in cc)

      at : ((x : Function) × (f < count) × (slice_get parts.functions f ≡ Some x) × (get_or parts.functions f x ≡ x)) ⊎ ((count ≤ f) × (slice_get parts.functions f ≡ None)) → IsFull (body_of parts f)
      at (inr past) = absurd (let le = past.0 in omega arith)
      at (inl it) =
          let far : count ≤ position_or_len Lacks parts.functions =
          ltb-false (position_or_len Lacks parts.functions) count (none_first (nat_lt (position_or_len Lacks parts.functions) count) refl program.none_empty) in
          let body : body_of parts f ≡ it.0.body = ap (λ (o : Option Function). elim o as (λ _. List Stmt) [ Some function ↦ function.body | None ↦ [] ]) it.2 in
          subst IsFull (sym body) (record {
            are = subst (λ (x : Function). AreStatements parts most_bodies x.body) it.3 (limits.statements f it.0 there);
            lacks = subst (λ (x : Function). Lacks x ≡ false) it.3 (fails_before_first Lacks parts.functions f it.0 (omega arith));
          })

  -- ---- so each walk comes to a point

  walked : (d : ℕ) (vs : List ℕ) (f : ℕ) → Walk vs f → count ≤ d + length vs → 0 < length (trace parts f)
  walked zero vs f walk enough = let few = short vs f walk in absurd (omega arith)
  walked (suc d) vs f walk enough =
      let there : f < count = walk.below f (or_left (f == f) _ (eq-eqb f f refl)) in
      let it = full f there in
      subst (λ (points : List Point). 0 < length points) (sym (traces_follow_calls parts f program))
      (body_points parts (trace parts) f most_bodies (body_of parts f) it.are it.lacks (λ h calls. walked d (f ∷ vs) h (next vs f h walk calls) (omega arith)))

  pub some_point : (f : ℕ) → f < count → 0 < length (trace parts f)
  some_point f there = walked count [] f (begins f there) (omega arith)
