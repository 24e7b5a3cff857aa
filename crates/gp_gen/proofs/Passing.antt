-- The generated program passes the check: which function has which body, whom it calls, and how long its trace is.
use Rattle.std.proofs.Common.{◌≡◌, ◌⊎◌, inl, inr, ◌+◌, ◌*◌, ◌-◌, ◌%◌, ◌<◌, ◌≤◌, ℕ, zero, suc, Bool, false, ◌||◌, ◌==◌, nat_lt}
use Rattle.std.proofs.Common.{List, [], ◌∷◌, ◌++◌, length, map, replicate, get_or, Option, Some, None, refl, sym, ap, ◌∙◌, subst, true≢false, length-append, arith}
use Rattle.std.proofs.lemmas.List.{length-map, length-replicate}
use Rattle.std.proofs.lemmas.Grind.{flat_map-append}
use Rattle.std.specs.List.{AllByRecursion, position, position_or_len, list_any, flat_map}
use Rattle.std.proofs.lemmas.List.Elements.{All-append, All-from_recursion, recursion_from_All}
use Rattle.std.proofs.lemmas.Bool.Decides.{nat_tests}
use Rattle.std.specs.Prelude.{All, IsSome}
use Rattle.std.proofs.lemmas.List.Folds.{list_any_none}
use Rattle.std.proofs.lemmas.Bool.{cases_lt}
use Rattle.std.proofs.lemmas.List.{get_or_append_left, get_or-append-add}
use Rattle.std.proofs.Math.Seq.{get_or-append_seam}
use Rattle.std.proofs.lemmas.Option.{slice_get-get_or}
use Rattle.gp_isa.specs.declared.bad.Bad.{Bad}
use Rattle.gp_isa.specs.declared.bad.Bad.TheVariants as bad
use Rattle.gp_isa.specs.declared.parts.Parts.{Parts}
use Rattle.gp_isa.specs.declared.parts.Function.{Function}
use Rattle.gp_isa.specs.declared.statement.Stmt.{Stmt}
use Rattle.gp_isa.specs.Statement.{action_of, line_of, most_bodies}
use Rattle.gp_isa.specs.Trace.{Point, Local, Send, Unlock, point_at, points_at, points_of_body, repeated, called_at, trace, body_of}
use Rattle.gp_isa.specs.Calls.{callees, calls_of, calls_in, reaches, is_recursive, first_recursive, first_too_long, IsProgram, IsCause}
use Rattle.gp_isa.specs.Checked.{main_of, lacks_statement, loop_lacks, first_empty}
use Rattle.gp_isa.specs.Limits.{most_points}
use Rattle.gp_isa.specs.declared.statement.What.TheVariants as what
use Rattle.gp_isa.proofs.Depth.{calls_followed}
use Rattle.gp_gen.proofs.Limits.{each_fits, has_all}
use Rattle.gp_gen.specs.GeneratedLaw.{GeneratedIsProgram}
use Rattle.gp_isa.proofs.Actions.{action-work, action-call, action-loop, action-send, action-recv, action-lock, action-unlock, action-spawn, action-labels}
use Rattle.gp_isa.proofs.First.{first_from-None}
use Rattle.gp_gen.specs.Generated.{each_below, statement, caller_work, callee_work, spawn_of, main_function, caller_of, callee_of, generated}

-- ---- which function has which number

each_length : {X : Type 0} (of : ℕ → X) (n : ℕ) → length (each_below of n) ≡ n
each_length of zero = refl
each_length of (suc n) = omega (arith, length-append (each_below of n) (of n ∷ []), each_length of n)

each_get : {X : Type 0} (of : ℕ → X) (n k : ℕ) (d : X) → k < n → get_or (each_below of n) k d ≡ of k
each_get of zero k d below = absurd (omega arith)
each_get of (suc n) k d below = by (cases_lt k n) (λ less. each_get of n k d less)
  where
    by : (k < n) ⊎ (n ≤ k) → (k < n → get_or (each_below of n) k d ≡ of k) → get_or (each_below of n ++ of n ∷ []) k d ≡ of k
    by (inl less) before =
        let within : k < length (each_below of n) = omega (arith, each_length of n, less) in
        get_or_append_left (each_below of n) (of n ∷ []) d k within ∙ before less
    by (inr same) before =
        let is_n : n ≡ k = omega arith in
        subst (λ (i : ℕ). get_or (each_below of n ++ of n ∷ []) i d ≡ of i) is_n
        (subst (λ (i : ℕ). get_or (each_below of n ++ of n ∷ []) i d ≡ of n) (each_length of n) (get_or-append_seam (each_below of n) (of n) [] d))

module _ (n q : ℕ) where
  body_at : (f : ℕ) (function : Function) → f < 33 → get_or (generated n q).functions f function ≡ function → body_of (generated n q) f ≡ function.body
  body_at f function below is =
      let within : f < length (generated n q).functions = omega (arith, (has_all n q).functions, below) in
      ap (λ (o : Option Function). elim o as (λ _. List Stmt) [ Some it ↦ it.body | None ↦ [] ])
      (slice_get-get_or (generated n q).functions f function within ∙ ap Some is)

  functions_are : (generated n q).functions ≡ main_function q ∷ (each_below (caller_of n) 16 ++ each_below (callee_of n) 16)
  unfolding generated
  functions_are = refl

  pub main_body : body_of (generated n q) 0 ≡ (main_function q).body
  main_body = body_at 0 (main_function q) (omega arith) (ap (λ (fs : List Function). get_or fs 0 (main_function q)) functions_are)

  pub caller_body : (j : ℕ) → j < 16 → body_of (generated n q) (suc j) ≡ (caller_of n j).body
  caller_body j below =
      let within : j < length (each_below (caller_of n) 16) = omega (arith, each_length (caller_of n) 16, below) in
      body_at (suc j) (caller_of n j) (omega arith)
      (ap (λ (fs : List Function). get_or fs (suc j) (caller_of n j)) functions_are
      ∙ get_or_append_left (each_below (caller_of n) 16) (each_below (callee_of n) 16) (caller_of n j) j within
      ∙ each_get (caller_of n) 16 j (caller_of n j) below)

  pub callee_body : (j : ℕ) → j < 16 → body_of (generated n q) (17 + j) ≡ (callee_of n j).body
  callee_body j below =
      let place : suc (16 + j) ≡ 17 + j = omega arith in
      subst (λ (f : ℕ). body_of (generated n q) f ≡ (callee_of n j).body) place
      (body_at (suc (16 + j)) (callee_of n j) (omega arith)
      (ap (λ (fs : List Function). get_or fs (suc (16 + j)) (callee_of n j)) functions_are
      ∙ get_or-append-add (each_below (caller_of n) 16) (each_below (callee_of n) 16) j (callee_of n j)
      ∙ each_get (callee_of n) 16 j (callee_of n j) below))

-- ---- calls

pub callee_calls : (n j : ℕ) → calls_in most_bodies (callee_of n j).body ≡ []
callee_calls n j = λ i.
    calls_of (calls_in 8) (action-lock (j % 4) i)
    ++ (calls_of (calls_in 8) (action-work (callee_work n j) i) ++ (calls_of (calls_in 8) (action-unlock (j % 4) i) ++ []))

abbrev turn_of : ℕ → ℕ → List Stmt
turn_of n j = statement (45 + 8 * j + 3) (what.Work (caller_work n j)) ∷ statement (45 + 8 * j + 4) (what.Call (17 + j)) ∷ []

pub turn_calls : (n j : ℕ) → calls_in 8 (turn_of n j) ≡ (17 + j) ∷ []
turn_calls n j = λ i. calls_of (calls_in 7) (action-work (caller_work n j) i) ++ (calls_of (calls_in 7) (action-call (17 + j) i) ++ [])

pub caller_calls : (n j : ℕ) → calls_in most_bodies (caller_of n j).body ≡ (17 + j) ∷ []
caller_calls n j =
    (λ i. calls_of (calls_in 8) (action-labels (1 + j) i)
    ++ (calls_of (calls_in 8) (action-loop 4 (turn_of n j) (45 + 8 * j + 5) i) ++ (calls_of (calls_in 8) (action-send 0 i) ++ [])))
    ∙ (λ i. turn_calls n j i ++ [])

-- ---- who reaches whom

module _ (p : Parts) where
  none_reached : (steps f h : ℕ) → callees p f ≡ [] → reaches p steps f h ≡ false
  unfolding reaches
  none_reached zero f h none = ap (list_any (λ g. h == g)) none
  none_reached (suc steps) f h none = ap (list_any (λ g. (h == g) || reaches p steps g h)) none

  one_reached : (steps f g h : ℕ) → callees p f ≡ g ∷ [] → (h == g) ≡ false → callees p g ≡ [] → reaches p steps f h ≡ false
  unfolding reaches
  one_reached zero f g h one other none = ap (list_any (λ g. h == g)) one ∙ (λ i. other i || false)
  one_reached (suc steps) f g h one other none =
      ap (list_any (λ g. (h == g) || reaches p steps g h)) one ∙ (λ i. (other i || none_reached steps g h none i) || false)

-- what holds of main, of each caller and of each callee
pub each_function : (P : ℕ → Type 0) → P 0 → ((j : ℕ) → j < 16 → P (suc j)) → ((j : ℕ) → j < 16 → P (17 + j)) → (f : ℕ) → f < 33 → P f
each_function P a b c zero below = a
each_function P a b c (suc j) below = by (cases_lt j 16)
  where
    by : (j < 16) ⊎ (16 ≤ j) → P (suc j)
    by (inl less) = b j less
    by (inr more) = let place : 17 + (j - 16) ≡ suc j = omega arith in subst P place (c (j - 16) (omega arith))

-- ---- bodies without a statement

callee_lacks : (n j : ℕ) → lacks_statement most_bodies (callee_of n j).body ≡ false
callee_lacks n j = λ i.
    loop_lacks (lacks_statement 8) (action-lock (j % 4) i)
    || (loop_lacks (lacks_statement 8) (action-work (callee_work n j) i) || (loop_lacks (lacks_statement 8) (action-unlock (j % 4) i) || false))

turn_lacks : (n j : ℕ) → lacks_statement 8 (turn_of n j) ≡ false
turn_lacks n j = λ i.
    loop_lacks (lacks_statement 7) (action-work (caller_work n j) i) || (loop_lacks (lacks_statement 7) (action-call (17 + j) i) || false)

caller_lacks : (n j : ℕ) → lacks_statement most_bodies (caller_of n j).body ≡ false
caller_lacks n j =
    (λ i. loop_lacks (lacks_statement 8) (action-labels (1 + j) i)
    || (loop_lacks (lacks_statement 8) (action-loop 4 (turn_of n j) (45 + 8 * j + 5) i) || (loop_lacks (lacks_statement 8) (action-send 0 i) || false)))
    ∙ (λ i. turn_lacks n j i || false)

spawns_lack : lacks_statement 8 (each_below spawn_of 16) ≡ false
spawns_lack =
    list_any_none (λ s. loop_lacks (lacks_statement 7) (action_of s)) (each_below spawn_of 16)
    (each_fits (λ s. loop_lacks (lacks_statement 7) (action_of s) ≡ false) spawn_of 16 (λ j below. ap (loop_lacks (lacks_statement 7)) (action-spawn (1 + j))))

main_lacks : (q : ℕ) → lacks_statement most_bodies (main_function q).body ≡ false
main_lacks q =
    (λ i. loop_lacks (lacks_statement 8) (action-loop q (each_below spawn_of 16) 40 i)
    || (loop_lacks (lacks_statement 8) (action-loop (16 * q) (statement 42 (what.Recv 0) ∷ []) 43 i) || false))
    ∙ (λ i. spawns_lack i || ((loop_lacks (lacks_statement 7) (action-recv 0 i) || false) || false))

position_len : {X : Type 0} (p : X → Bool) (xs : List X) → AllByRecursion (λ x. p x ≡ false) xs → position_or_len p xs ≡ length xs
position_len p [] none = refl
position_len p (x ∷ xs) none = let rest = position_len p xs none.1 in rw none.0 (omega arith)

position_none : {X : Type 0} (p : X → Bool) (xs : List X) → All (λ x. p x ≡ false) xs → position p xs ≡ None
position_none p xs none =
    let len = position_len p xs (recursion_from_All (λ x. p x ≡ false) xs none) in
    let past : nat_lt (position_or_len p xs) (length xs) ≡ false = grind (arith, nat_tests) in
    rw past refl

-- ---- calls of main

flat_none : {A : Type 0} (f : Stmt → List A) (of : ℕ → Stmt) (n : ℕ) → ((k : ℕ) → f (of k) ≡ []) → flat_map f (each_below of n) ≡ []
flat_none f of zero none = refl
flat_none f of (suc n) none = flat_map-append f (each_below of n) (of n ∷ []) ∙ (λ i. flat_none f of n none i ++ (none n i ++ []))

main_calls : (q : ℕ) → calls_in most_bodies (main_function q).body ≡ []
main_calls q =
    (λ i. calls_of (calls_in 8) (action-loop q (each_below spawn_of 16) 40 i)
    ++ (calls_of (calls_in 8) (action-loop (16 * q) (statement 42 (what.Recv 0) ∷ []) 43 i) ++ []))
    ∙ (λ i. flat_none (λ s. calls_of (calls_in 7) (action_of s)) spawn_of 16 (λ k. ap (calls_of (calls_in 7)) (action-spawn (1 + k))) i
    ++ ((calls_of (calls_in 7) (action-recv 0 i) ++ []) ++ []))

-- ---- lengths

repeated_short : (k b : ℕ) (xs : List Point) → length xs ≤ b → length (repeated k xs) ≤ k * b
repeated_short zero b xs short = omega arith
repeated_short (suc k) b xs short = omega (arith, repeated_short k b xs short, length-append xs (repeated k xs))

flat_short : (f : Stmt → List Point) (of : ℕ → Stmt) (n : ℕ) → ((k : ℕ) → length (f (of k)) ≤ 1) → length (flat_map f (each_below of n)) ≤ n
flat_short f of zero short = omega arith
flat_short f of (suc n) short =
    let split = ap length (flat_map-append f (each_below of n) (of n ∷ [])) in
    let one = short n in
    let rest = flat_short f of n short in
    omega (arith, length-append (flat_map f (each_below of n)) (f (of n) ++ []), length-append (f (of n)) [])

module _ (calls : ℕ → List Point) (f : ℕ) where
  callee_length : (n j : ℕ) → length (points_of_body calls f most_bodies (callee_of n j).body) ≤ 24
  callee_length n j =
      let at : ℕ = 173 + 5 * j in
      let work : List Point = replicate (callee_work n j) (point_at f (173 + 5 * j + 2) Local) in
      let opened = ap length (λ i.
      points_at calls (points_of_body calls f 8) f (173 + 5 * j + 1) (action-lock (j % 4) i)
      ++ (points_at calls (points_of_body calls f 8) f (173 + 5 * j + 2) (action-work (callee_work n j) i)
      ++ (points_at calls (points_of_body calls f 8) f (173 + 5 * j + 3) (action-unlock (j % 4) i) ++ []))) in
      omega (arith, opened, length-append work (point_at f (173 + 5 * j + 3) (Unlock (j % 4)) ∷ []), length-replicate (callee_work n j) (point_at f (173 + 5 * j + 2) Local))

  turn_length : (n j : ℕ) → length (calls (17 + j)) ≤ 24 → length (points_of_body calls f 8 (turn_of n j)) ≤ 1120
  turn_length n j short =
      let opened = ap length (λ i.
      points_at calls (points_of_body calls f 7) f (45 + 8 * j + 3) (action-work (caller_work n j) i)
      ++ (points_at calls (points_of_body calls f 7) f (45 + 8 * j + 4) (action-call (17 + j) i) ++ [])) in
      omega (
        arith,
        opened,
        length-append (replicate (caller_work n j) (point_at f (45 + 8 * j + 3) Local)) (map (called_at f (45 + 8 * j + 4)) (calls (17 + j)) ++ []),
        length-append (map (called_at f (45 + 8 * j + 4)) (calls (17 + j))) [],
        length-map (calls (17 + j)) (called_at f (45 + 8 * j + 4)),
        length-replicate (caller_work n j) (point_at f (45 + 8 * j + 3) Local),
        short,
      )

  caller_length : (n j : ℕ) → length (calls (17 + j)) ≤ 24 → length (points_of_body calls f most_bodies (caller_of n j).body) ≤ 5000
  caller_length n j short =
      let turns : List Point = repeated 4 (points_of_body calls f 8 (turn_of n j)) in
      let opened = ap length (λ i.
      points_at calls (points_of_body calls f 8) f (45 + 8 * j + 1) (action-labels (1 + j) i)
      ++ (points_at calls (points_of_body calls f 8) f (45 + 8 * j + 2) (action-loop 4 (turn_of n j) (45 + 8 * j + 5) i)
      ++ (points_at calls (points_of_body calls f 8) f (45 + 8 * j + 6) (action-send 0 i) ++ []))) in
      omega (
        arith,
        opened,
        repeated_short 4 1120 (points_of_body calls f 8 (turn_of n j)) (turn_length n j short),
        length-append (repeated 4 (points_of_body calls f 8 (turn_of n j))) (point_at f (45 + 8 * j + 6) (Send 0) ∷ []),
      )

  spawn_length : (k : ℕ) → length (points_at calls (points_of_body calls f 7) f (24 + k) (action_of (spawn_of k))) ≤ 1
  spawn_length k = let one = ap (λ a. length (points_at calls (points_of_body calls f 7) f (24 + k) a)) (action-spawn (1 + k)) in omega (arith, one)

  main_length : (q : ℕ) → q ≤ 63 → length (points_of_body calls f most_bodies (main_function q).body) ≤ 5000
  main_length q most =
      let spawned = flat_short (λ s. points_at calls (points_of_body calls f 7) f (line_of s) (action_of s)) spawn_of 16 spawn_length in
      let births : List Point = repeated q (points_of_body calls f 8 (each_below spawn_of 16)) in
      let received : List Point = points_of_body calls f 8 (statement 42 (what.Recv 0) ∷ []) in
      let one = ap length (λ i. points_at calls (points_of_body calls f 7) f 42 (action-recv 0 i) ++ []) in
      let short : length received ≤ 1 = omega (arith, one) in
      let opened = ap length (λ i.
      points_at calls (points_of_body calls f 8) f 23 (action-loop q (each_below spawn_of 16) 40 i)
      ++ (points_at calls (points_of_body calls f 8) f 41 (action-loop (16 * q) (statement 42 (what.Recv 0) ∷ []) 43 i) ++ [])) in
      omega (
        arith,
        opened,
        repeated_short q 16 (points_of_body calls f 8 (each_below spawn_of 16)) spawned,
        repeated_short (16 * q) 1 received short,
        length-append births (repeated (16 * q) received ++ []),
        length-append (repeated (16 * q) received) [],
      )

-- ---- the four parts of a program

not_more : (a b : ℕ) → a ≤ b → nat_lt b a ≡ false
not_more a b le = grind (arith, nat_tests)

abbrev HasAStatement : Function → Type 0
HasAStatement f = lacks_statement most_bodies f.body ≡ false

module _ (n q : ℕ) where
  abbrev made : Parts
  made = generated n q

  functions_lack : All HasAStatement (main_function q ∷ (each_below (caller_of n) 16 ++ each_below (callee_of n) 16))
  functions_lack =
      All-append HasAStatement (main_function q ∷ []) (each_below (caller_of n) 16 ++ each_below (callee_of n) 16)
      (All-from_recursion HasAStatement (main_function q ∷ []) (main_lacks q, tt))
      (All-append HasAStatement (each_below (caller_of n) 16) (each_below (callee_of n) 16)
      (each_fits HasAStatement (caller_of n) 16 (λ j below. caller_lacks n j)) (each_fits HasAStatement (callee_of n) 16 (λ j below. callee_lacks n j)))

  none_empty : first_empty made ≡ None
  none_empty =
      ap (position (λ (f : Function). lacks_statement most_bodies f.body)) (functions_are n q)
      ∙ position_none (λ (f : Function). lacks_statement most_bodies f.body) (main_function q ∷ (each_below (caller_of n) 16 ++ each_below (callee_of n) 16)) functions_lack

  main_callees : callees made 0 ≡ []
  main_callees = ap (calls_in most_bodies) (main_body n q) ∙ main_calls q

  caller_callees : (j : ℕ) → j < 16 → callees made (suc j) ≡ (17 + j) ∷ []
  caller_callees j below = ap (calls_in most_bodies) (caller_body n q j below) ∙ caller_calls n j

  callee_callees : (j : ℕ) → j < 16 → callees made (17 + j) ≡ []
  callee_callees j below = ap (calls_in most_bodies) (callee_body n q j below) ∙ callee_calls n j

  not_recursive : (f : ℕ) → f < 33 → is_recursive made f ≡ false
  not_recursive =
      let count : ℕ = length made.functions in
      each_function (λ f. is_recursive made f ≡ false)
      (none_reached made count 0 0 main_callees)
      (λ j below. let other : (suc j == 17 + j) ≡ false = grind (arith, nat_tests) in
      one_reached made count (suc j) (17 + j) (suc j) (caller_callees j below) other (callee_callees j below))
      (λ j below. none_reached made count (17 + j) (17 + j) (callee_callees j below))

  none_recursive : first_recursive made ≡ None
  none_recursive = first_from-None (is_recursive made) 0 (length made.functions) (λ j above below. not_recursive j (omega (arith, (has_all n q).functions, below)))

  -- a function's trace is as long as its body's
  followed : (f most : ℕ) (body : List Stmt) → body_of made f ≡ body → length (points_of_body (trace made) f most_bodies body) ≤ most → length (trace made f) ≤ most
  followed f most body is short =
      let whole = ap length (calls_followed made none_recursive f ∙ ap (points_of_body (trace made) f most_bodies) is) in omega (arith, whole, short)

  callee_short : (j : ℕ) → j < 16 → length (trace made (17 + j)) ≤ 24
  callee_short j below = followed (17 + j) 24 (callee_of n j).body (callee_body n q j below) (callee_length (trace made) (17 + j) n j)

  trace_short : q ≤ 63 → (f : ℕ) → f < 33 → length (trace made f) ≤ 5000
  trace_short most =
      each_function (λ f. length (trace made f) ≤ 5000)
      (followed 0 5000 (main_function q).body (main_body n q) (main_length (trace made) 0 q most))
      (λ j below. followed (suc j) 5000 (caller_of n j).body (caller_body n q j below) (caller_length (trace made) (suc j) n j (callee_short j below)))
      (λ j below. omega (arith, callee_short j below))

  none_too_long : q ≤ 63 → first_too_long made ≡ None
  none_too_long most =
      first_from-None (λ f. nat_lt most_points (length (trace made f))) 0 (length made.functions)
      (λ j above below. not_more (length (trace made j)) most_points (omega (arith, trace_short most j (omega (arith, (has_all n q).functions, below)))))

  has_main : IsSome (main_of made)
  unfolding generated
  has_main = refl

  pub is_program : q ≤ 63 → IsProgram made
  is_program most = record { has_main = has_main; none_empty = none_empty; none_recursive = none_recursive; none_too_long = none_too_long most }

pub generated_is_program : GeneratedIsProgram
generated_is_program n q least most = is_program n q most

-- ---- why parts are none

-- what is a program is refused for want of memory alone
pub memory_alone : (parts : Parts) (why : Bad) → IsProgram parts → IsCause parts why → why ≡ bad.Memory
memory_alone parts bad.NoMain program cause = let some = program.has_main in absurd (true≢false (sym (subst IsSome cause some)))
memory_alone parts (bad.Empty f) program cause = let none = program.none_empty in let is = cause.1 in absurd (cc)
memory_alone parts (bad.Recursion f) program cause = let none = program.none_recursive in let is = cause.2 in absurd (cc)
memory_alone parts (bad.TooLong f) program cause = let none = program.none_too_long in let is = cause.3 in absurd (cc)
memory_alone parts bad.Memory program cause = refl
