-- In parts that lie in their limits, whoever is called is there.
use Rattle.std.proofs.Common.{◌≡◌, ℕ, zero, suc, ◌+◌, ◌<◌, ◌≤◌, ◌⊎◌, Bool, true, ◌==◌, eqb-true, true≢false, List, [], ◌∷◌, ◌++◌, length, get_or, Some, None, flat_map, sym, ap, ◌∙◌, subst, inl, inr, arith}
use Rattle.std.specs.List.{All, slice_get}
use Rattle.std.proofs.lemmas.Bool.{cases_lt, or_cases}
use Rattle.gp_isa.specs.Limits.{most_functions}
use Rattle.std.proofs.lemmas.List.{get_or_append_left, get_or_past, get_or_push}
use Rattle.std.proofs.lemmas.List.Elements.{All-nil, All-cons, All-head, All-tail, All-append}
use Rattle.std.proofs.lemmas.Option.{slice_get_cases}
use Rattle.gp_isa.specs.declared.parts.Function.{Function}
use Rattle.gp_isa.specs.declared.parts.Parts.{Parts}
use Rattle.gp_isa.specs.declared.statement.Stmt.{Stmt}
use Rattle.gp_isa.specs.declared.statement.What.TheOpen.{Work, Call, Loop, Send, Recv, Lock, Unlock, Spawn, Labels}
use Rattle.gp_isa.specs.Statement.{Action, action_of, most_bodies}
use Rattle.gp_isa.specs.Calls.{calls_of, calls_in, callees}
use Rattle.gp_isa.specs.InLimits.{IsAction, AreStatements, AreInLimits}
use Rattle.gp_isa.specs.Trace.{body_of}
use Rattle.gp_isa.specs.kept.Ways.{is_among, marked, AreCalls}
use Rattle.gp_isa.proofs.Bodies.{body_of-within, body_of-past}

module _ (parts : Parts) where
  abbrev pub IsThere : ℕ → Type 0
  IsThere h = h < length parts.functions

  module _ (inner : List Stmt → List ℕ) (Within : List Stmt → Type 0) (there : (body : List Stmt) → Within body → All IsThere (inner body)) where
    action_there : (a : Action) → IsAction parts Within a → All IsThere (calls_of inner a)
    action_there (Work n) is = All-nil IsThere
    action_there (Call f) is = All-cons IsThere f [] is (All-nil IsThere)
    action_there (Loop n body end) is = there body is.1
    action_there (Send c) is = All-nil IsThere
    action_there (Recv c) is = All-nil IsThere
    action_there (Lock m) is = All-nil IsThere
    action_there (Unlock m) is = All-nil IsThere
    action_there (Spawn f) is = All-nil IsThere
    action_there (Labels s) is = All-nil IsThere

    body_there : (body : List Stmt) → All (λ s. IsAction parts Within (action_of s)) body → All IsThere (flat_map (λ s. calls_of inner (action_of s)) body)
    body_there [] are = All-nil IsThere
    body_there (s ∷ body) are =
        All-append IsThere (calls_of inner (action_of s)) _
        (action_there (action_of s) (All-head (λ s. IsAction parts Within (action_of s)) s body are))
        (body_there body (All-tail (λ s. IsAction parts Within (action_of s)) s body are))

  calls_there : (deep : ℕ) (body : List Stmt) → AreStatements parts deep body → All IsThere (calls_in deep body)
  calls_there zero body are = absurd are
  calls_there (suc deep) body are = body_there (calls_in deep) (AreStatements parts deep) (calls_there deep) body are

  pub callees_there : AreInLimits parts → (f : ℕ) → All IsThere (callees parts f)
  callees_there limits f = at (slice_get_cases parts.functions f).1
    where
      at : ((x : Function) × (f < length parts.functions) × (slice_get parts.functions f ≡ Some x) × (get_or parts.functions f x ≡ x)) ⊎ ((length parts.functions ≤ f) × (slice_get parts.functions f ≡ None)) → All IsThere (callees parts f)
      at (inl (x, within, found, here)) =
          subst (λ body. All IsThere (calls_in most_bodies body)) (ap (λ (g : Function). g.body) here ∙ sym (body_of-within parts f x within (sym here)))
          (calls_there most_bodies (get_or parts.functions f x).body (limits.statements f x within))
      at (inr (past, found)) = subst (λ body. All IsThere (calls_in most_bodies body)) (sym (body_of-past parts f past)) (All-nil IsThere)

  pub row_fits : AreInLimits parts → (functions : List Function) (f : ℕ) (function : Function) (body : List Stmt) → functions ≡ parts.functions → f < length functions →
      function ≡ get_or functions f function → body ≡ function.body → All (λ h. h < most_functions) (calls_in most_bodies body)
  row_fits limits functions f function body same within here is k d below =
      let its : body_of parts f ≡ body =
      body_of-within parts f function (subst (λ fs. f < length fs) same within) (subst (λ fs. function ≡ get_or fs f function) same here) ∙ sym is in
      let there : All IsThere (calls_in most_bodies body) = subst (λ b. All IsThere (calls_in most_bodies b)) its (callees_there limits f) in
      omega (arith, there k d below, limits.functions)

-- whoever is called is there
among : (P : ℕ → Type 0) (h : ℕ) (hs : List ℕ) → All P hs → is_among h hs ≡ true → P h
among P h [] all none = absurd (true≢false (sym none))
among P h (g ∷ hs) all one = at (or_cases (h == g) (is_among h hs) one) (among P h hs (All-tail P g hs all))
  where
    at : ((h == g) ≡ true) ⊎ (is_among h hs ≡ true) → (is_among h hs ≡ true → P h) → P h
    at (inl here) rest = subst P (sym (eqb-true h g here)) (All-head P g hs all)
    at (inr later) rest = rest later

pub among_there : (parts : Parts) → AreInLimits parts → (f h : ℕ) → is_among h (callees parts f) ≡ true → h < length parts.functions
among_there parts limits f h calls = among (λ g. g < length parts.functions) h (callees parts f) (callees_there parts limits f) calls

-- one row more
pub one_row_more : (test : ℕ → ℕ → Bool) (rows : List (List Bool)) (i : ℕ) (row : List Bool) → length rows ≡ i → ((h : ℕ) → marked row h ≡ test i h) →
    (pushed : List (List Bool)) → pushed ≡ rows ++ row ∷ [] → ((k h : ℕ) → k < i → marked (get_or rows k []) h ≡ test k h) →
    (k h : ℕ) → k < i + 1 → marked (get_or pushed k []) h ≡ test k h
one_row_more test rows i row len is pushed push before k h below = ap (λ rs. marked (get_or rs k []) h) push ∙ at (cases_lt k i)
  where
    at : (k < i) ⊎ (i ≤ k) → marked (get_or (rows ++ row ∷ []) k []) h ≡ test k h
    at (inl early) = ap (λ r. marked r h) (get_or_append_left rows (row ∷ []) [] k (omega arith)) ∙ before k h early
    at (inr last) = let here : k ≡ i = omega arith in ap (λ r. marked r h) (get_or_push rows row [] k (omega arith)) ∙ is h ∙ ap (λ j. test j h) (sym here)

-- the row of a function tells whom it calls
pub row_tells : (parts : Parts) (functions : List Function) (f : ℕ) (function : Function) (body : List Stmt) (row : List Bool) → functions ≡ parts.functions → f < length functions →
    function ≡ get_or functions f function → body ≡ function.body → ((h : ℕ) → marked row h ≡ is_among h (calls_in most_bodies body)) → (h : ℕ) → marked row h ≡ is_among h (callees parts f)
row_tells parts functions f function body row same within here is tells h =
    tells h ∙ ap (λ b. is_among h (calls_in most_bodies b)) (is ∙ sym (body_of-within parts f function (subst (λ fs. f < length fs) same within) (subst (λ fs. function ≡ get_or fs f function) same here)))

pub whole_rows : (parts : Parts) (rows : List (List Bool)) → length rows ≡ length parts.functions →
    ((k h : ℕ) → k < length parts.functions → marked (get_or rows k []) h ≡ is_among h (callees parts k)) → AreCalls parts rows
whole_rows parts rows len each = record { each = λ f h. at f h (cases_lt f (length parts.functions)) }
  where
    at : (f h : ℕ) → (f < length parts.functions) ⊎ (length parts.functions ≤ f) → marked (get_or rows f []) h ≡ is_among h (callees parts f)
    at f h (inl within) = each f h within
    at f h (inr past) = ap (λ r. marked r h) (get_or_past rows f [] (omega arith)) ∙ sym (ap (λ body. is_among h (calls_in most_bodies body)) (body_of-past parts f past))
