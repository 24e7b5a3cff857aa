-- Moves that pass no point lower the cost.
use Rattle.std.proofs.Common.{◌-◌, ◌≡◌, ◌<◌, ◌≤◌, ◌+◌, ◌*◌, ℕ, zero, suc, false, List, [], ◌∷◌, length, drop, refl, ap, ◌∙◌, arith, add-one}
use Rattle.std.proofs.lemmas.List.{drop_all}
use Rattle.gp_isa.specs.declared.parts.Parts.{Parts}
use Rattle.gp_isa.specs.declared.statement.Stmt.{Stmt}
use Rattle.gp_isa.specs.declared.statement.What.TheOpen.{Work, Call, Loop, Send, Recv, Lock, Unlock, Spawn, Labels}
use Rattle.gp_isa.specs.Statement.{Action, action_of}
use Rattle.gp_isa.specs.Trace.{body_of}
use Rattle.gp_stack.specs.declared.level.Level.{Level}
use Rattle.gp_stack.specs.kept.Level.{is_base, body_at}
use Rattle.gp_stack.specs.kept.Place.{stepped, turned}
use Rattle.gp_stack.specs.kept.Ahead.{Does}
use Rattle.gp_stack.specs.kept.Cost.{cost_of, cost_of_body, cost_of_call, cost_here, cost}
use Rattle.gp_stack.proofs.Levels.{drop_at, base_false}
use Rattle.gp_stack.proofs.Looking.{does_at}
use Rattle.gp_stack.proofs.Moves.{moved, body_moved, loop_level, call_level, body_of_loop, body_of_call, body_turned, body_turning}

abbrev inner_cost : (ℕ → ℕ) → ℕ → List Stmt → ℕ
inner_cost calls zero body = 0
inner_cost calls (suc deep) body = cost_of_body calls deep body

body_cons : (calls : ℕ → ℕ) (deep : ℕ) (s : Stmt) (body : List Stmt) → cost_of_body calls deep (s ∷ body) ≡ cost_of calls (inner_cost calls deep) (action_of s) + cost_of_body calls deep body
unfolding cost_of_body
body_cons calls zero s body = refl
body_cons calls (suc deep) s body = refl

body_nil : (calls : ℕ → ℕ) (deep : ℕ) → cost_of_body calls deep [] ≡ 0
unfolding cost_of_body
body_nil calls zero = refl
body_nil calls (suc deep) = refl

abbrev step_cost : Parts → Level → Action → ℕ
step_cost parts level a = cost_of (cost_of_call parts level.calls) (inner_cost (cost_of_call parts level.calls) level.loops) a

here_next : (parts : Parts) (level : Level) (body : List Stmt) (a : Action) → Does body level.at a → cost_here parts level body ≡ step_cost parts level a + cost_here parts (moved level (level.at + 1)) body
unfolding cost_here
here_next parts level body a d =
    let calls : ℕ → ℕ = cost_of_call parts level.calls in
    let next : drop level.at body ≡ d.statement ∷ drop (suc level.at) body = drop_at body level.at d.statement d.stands in
    rw (next, add-one level.at, body_cons calls level.loops d.statement (drop (suc level.at) body), d.does) (omega arith)

cost_cons : (parts : Parts) (level : Level) (outer : List Level) → cost parts (level ∷ outer) ≡ cost_here parts level (body_at parts level outer) + cost parts outer
unfolding cost
cost_cons parts level outer = refl

cost_next : (parts : Parts) (level : Level) (outer : List Level) (a : Action) → Does (body_at parts level outer) level.at a → cost parts (level ∷ outer) ≡ step_cost parts level a + cost parts (stepped (level ∷ outer))
cost_next parts level outer a d =
    rw (cost_cons parts level outer, cost_cons parts (moved level (level.at + 1)) outer, body_moved parts level (level.at + 1) outer, here_next parts level (body_at parts level outer) a d)
    (omega arith)

costs : (calls : ℕ → ℕ) (inner : List Stmt → ℕ) (a : Action) → 0 < cost_of calls inner a
costs calls inner (Work n) = omega arith
costs calls inner (Call f) = omega arith
costs calls inner (Loop n body end) = omega arith
costs calls inner (Send c) = omega arith
costs calls inner (Recv c) = omega arith
costs calls inner (Lock m) = omega arith
costs calls inner (Unlock m) = omega arith
costs calls inner (Spawn f) = omega arith
costs calls inner (Labels s) = omega arith

pub cost_skip : (parts : Parts) (level : Level) (outer : List Level) (a : Action) → Does (body_at parts level outer) level.at a → cost parts (stepped (level ∷ outer)) < cost parts (level ∷ outer)
cost_skip parts level outer a d =
    let next : cost parts (level ∷ outer) ≡ step_cost parts level a + cost parts (stepped (level ∷ outer)) = cost_next parts level outer a d in
    let some : 0 < step_cost parts level a = costs (cost_of_call parts level.calls) (inner_cost (cost_of_call parts level.calls) level.loops) a in
    omega arith

cost_moved : (parts : Parts) (level : Level) (outer : List Level) (n : ℕ) → level.at + n ≤ length (body_at parts level outer) → cost parts (moved level (level.at + n) ∷ outer) + n ≤ cost parts (level ∷ outer)
cost_moved parts level outer zero within =
    let here : level.at + 0 ≡ level.at = omega arith in
    let same : cost parts (moved level (level.at + 0) ∷ outer) ≡ cost parts (level ∷ outer) = ap (λ at. cost parts (moved level at ∷ outer)) here in omega arith
cost_moved parts level outer (suc n) within =
    let same : body_at parts (moved level (level.at + n)) outer ≡ body_at parts level outer = body_moved parts level (level.at + n) outer in
    let there : level.at + n < length (body_at parts (moved level (level.at + n)) outer) = rw same (omega arith) in
    let d : (a : Action) × Does (body_at parts (moved level (level.at + n)) outer) (level.at + n) a = does_at (body_at parts (moved level (level.at + n)) outer) (level.at + n) there in
    let less : cost parts (moved level (level.at + n + 1) ∷ outer) < cost parts (moved level (level.at + n) ∷ outer) = cost_skip parts (moved level (level.at + n)) outer d.0 d.1 in
    let next : level.at + suc n ≡ level.at + n + 1 = omega arith in
    let step : cost parts (moved level (level.at + suc n) ∷ outer) ≡ cost parts (moved level (level.at + n + 1) ∷ outer) = ap (λ at. cost parts (moved level at ∷ outer)) next in
    omega (arith, cost_moved parts level outer n (omega arith))

-- statements that are crossed at once
pub cost_run : (parts : Parts) (level : Level) (outer : List Level) (to : ℕ) → level.at < to → to ≤ length (body_at parts level outer) → cost parts (moved level to ∷ outer) < cost parts (level ∷ outer)
cost_run parts level outer to some within =
    let there : level.at + (to - level.at) ≡ to = omega arith in
    let same : cost parts (moved level (level.at + (to - level.at)) ∷ outer) ≡ cost parts (moved level to ∷ outer) = ap (λ at. cost parts (moved level at ∷ outer)) there in
    omega (arith, cost_moved parts level outer (to - level.at) (omega arith))

loop_here : (parts : Parts) (level : Level) (k n : ℕ) (body : List Stmt) → cost_here parts (loop_level level k n body) body ≡ n * (1 + cost_of_body (cost_of_call parts level.calls) k body) + 1
unfolding cost_here
loop_here parts level k n body = rw (drop_all (length body) body (omega arith), body_nil (cost_of_call parts level.calls) k) (omega arith)

pub cost_loop : (parts : Parts) (level : Level) (outer : List Level) (k n end : ℕ) (body : List Stmt) → level.loops ≡ suc k → level.loops ≤ 8 → Does (body_at parts level outer) level.at (Loop n body end) →
    cost parts (loop_level level k n body ∷ stepped (level ∷ outer)) < cost parts (level ∷ outer)
cost_loop parts level outer k n end body loops few d =
    let new : Level = loop_level level k n body in
    let inner : is_base new ≡ false = base_false new (λ e. omega arith) in
    let in_loop : cost parts (new ∷ stepped (level ∷ outer)) ≡ n * (1 + cost_of_body (cost_of_call parts level.calls) k body) + 1 + cost parts (stepped (level ∷ outer)) =
    cost_cons parts new (stepped (level ∷ outer)) ∙ (rw (body_of_loop parts level new outer n end body inner d, loop_here parts level k n body) refl) in
    let next : cost parts (level ∷ outer) ≡ step_cost parts level (Loop n body end) + cost parts (stepped (level ∷ outer)) = cost_next parts level outer (Loop n body end) d in
    let adds : step_cost parts level (Loop n body end) ≡ n * (1 + cost_of_body (cost_of_call parts level.calls) k body) + 3 = rw loops refl in
    omega arith

call_cost : (parts : Parts) (k h : ℕ) → cost_of_call parts (suc k) h ≡ cost_of_body (cost_of_call parts k) 8 (body_of parts h)
unfolding cost_of_call
call_cost parts k h = refl

call_here : (parts : Parts) (level : Level) (k h : ℕ) → cost_here parts (call_level level k h) (body_of parts h) ≡ cost_of_call parts (suc k) h + 1
unfolding cost_here
call_here parts level k h = rw (call_cost parts k h) (omega arith)

pub cost_call : (parts : Parts) (level : Level) (outer : List Level) (k h : ℕ) → level.calls ≡ suc k → Does (body_at parts level outer) level.at (Call h) → cost parts (call_level level k h ∷ stepped (level ∷ outer)) < cost parts (level ∷ outer)
cost_call parts level outer k h calls d =
    let new : Level = call_level level k h in
    let in_call : cost parts (new ∷ stepped (level ∷ outer)) ≡ cost_of_call parts (suc k) h + 1 + cost parts (stepped (level ∷ outer)) =
    cost_cons parts new (stepped (level ∷ outer)) ∙ (rw (body_of_call parts level (stepped (level ∷ outer)) k h, call_here parts level k h) refl) in
    let next : cost parts (level ∷ outer) ≡ step_cost parts level (Call h) + cost parts (stepped (level ∷ outer)) = cost_next parts level outer (Call h) d in
    let adds : step_cost parts level (Call h) ≡ cost_of_call parts (suc k) h + 3 = rw calls refl in
    omega arith

here_end : (parts : Parts) (level : Level) (body : List Stmt) → length body ≤ level.at → cost_here parts level body ≡ level.turns * (1 + cost_of_body (cost_of_call parts level.calls) level.loops body) + 1
unfolding cost_here
here_end parts level body past = rw (drop_all level.at body past, body_nil (cost_of_call parts level.calls) level.loops) (omega arith)

times_some : (k each : ℕ) → 0 < k → 0 < k * (1 + each)
times_some zero each some = absurd (omega arith)
times_some (suc k) each some = omega arith

-- fewer turns
pub cost_turns : (parts : Parts) (level : Level) (outer : List Level) (k r : ℕ) → length (body_at parts level outer) ≤ level.at → level.turns ≡ k + r → 0 < k → cost parts (record level { turns = r } ∷ outer) < cost parts (level ∷ outer)
cost_turns parts level outer k r past split some =
    let each : ℕ = cost_of_body (cost_of_call parts level.calls) level.loops (body_at parts level outer) in
    let before : cost parts (level ∷ outer) ≡ level.turns * (1 + each) + 1 + cost parts outer =
    cost_cons parts level outer ∙ (rw (here_end parts level (body_at parts level outer) past) refl) in
    let after : cost parts (record level { turns = r } ∷ outer) ≡ r * (1 + each) + 1 + cost parts outer =
    cost_cons parts (record level { turns = r }) outer ∙ (rw (body_turning parts level r outer, here_end parts (record level { turns = r }) (body_at parts level outer) past) refl) in
    let times : level.turns * (1 + each) ≡ k * (1 + each) + r * (1 + each) = ap (λ m. m * (1 + each)) split ∙ omega arith in
    let more : 0 < k * (1 + each) = times_some k each some in
    omega arith

here_turn : (parts : Parts) (level : Level) (body : List Stmt) (n : ℕ) → cost_here parts (record level { at = 0; turns = n }) body ≡ cost_of_body (cost_of_call parts level.calls) level.loops body + n *
    (1 + cost_of_body (cost_of_call parts level.calls) level.loops body) + 1
unfolding cost_here
here_turn parts level body n = refl

pub cost_turned : (parts : Parts) (level : Level) (outer : List Level) (n : ℕ) → length (body_at parts level outer) ≤ level.at → level.turns ≡ n → cost parts (turned n level outer) < cost parts (level ∷ outer)
cost_turned parts level outer zero past turns =
    rw (cost_cons parts level outer, here_end parts level (body_at parts level outer) past) (omega arith)
cost_turned parts level outer (suc n) past turns =
    let each : ℕ = cost_of_body (cost_of_call parts level.calls) level.loops (body_at parts level outer) in
    let before : cost parts (level ∷ outer) ≡ level.turns * (1 + each) + 1 + cost parts outer =
    cost_cons parts level outer ∙ (rw (here_end parts level (body_at parts level outer) past) refl) in
    let after : cost parts (record level { at = 0; turns = n } ∷ outer) ≡ each + n * (1 + each) + 1 + cost parts outer =
    cost_cons parts (record level { at = 0; turns = n }) outer ∙ (rw (body_turned parts level n outer, here_turn parts level (body_at parts level outer) n) refl) in
    let times : level.turns * (1 + each) ≡ suc n * (1 + each) = ap (λ m. m * (1 + each)) turns in
    omega arith
