-- Looks at statements and at the turns of a body.
use Rattle.std.proofs.Common.{◌≡◌, ◌<◌, ◌≤◌, ◌+◌, ◌-◌, ◌*◌, Bool, min, ℕ, zero, suc, List, [], ◌∷◌, ◌++◌, length, drop, take, reverse, get_or, map, replicate, Option, Some, None, refl, ap, ap₂, sym, ◌∙◌, arith, subst}
use Rattle.std.specs.Prelude.{slice_get}
use Rattle.std.proofs.lemmas.List.{map-append, append-nil, drop_all, drop-drop, replicate-append-replicate}
use Rattle.gp_isa.specs.declared.parts.Parts.{Parts}
use Rattle.gp_isa.specs.declared.statement.Stmt.{Stmt}
use Rattle.gp_isa.specs.declared.statement.What.TheOpen.{Work, Call, Loop, Labels}
use Rattle.gp_isa.specs.Statement.{Action, action_of, line_of}
use Rattle.gp_isa.specs.Calls.{IsProgram}
use Rattle.gp_isa.specs.Size.{most_frames}
use Rattle.gp_isa.specs.Trace.{Instruction, Point, Local as LocalPoint, is_local, point_at, points_at, points_of_body, called_at, repeated, body_of, trace}
use Rattle.gp_isa.specs.Block.{IsRun, between}
use Rattle.gp_isa.specs.declared.block.Run.{Run}
use Rattle.gp_isa.proofs.Runs.{body_between}
use Rattle.gp_stack.specs.declared.peek.Peek.{Peek}
use Rattle.gp_stack.specs.declared.peek.Then.TheVariants.{Shared, Over}
use Rattle.gp_stack.specs.declared.statement.Operation.{Operation}
use Rattle.gp_stack.specs.declared.statement.Operation.TheVariants as operation
use Rattle.gp_stack.specs.kept.Ahead.{Does, action_of_operation}
use Rattle.gp_stack.specs.declared.level.Level.{Level}
use Rattle.gp_stack.specs.declared.body.Body.{Body}
use Rattle.gp_stack.specs.Goroutine.{local_ahead}
use Rattle.gp_stack.specs.Body.{StandsIn}
use Rattle.gp_stack.specs.kept.Place.{Fit, levels, stepped}
use Rattle.gp_stack.specs.kept.Level.{is_base, body_at, body_inside, callers, called_from, left_here, left, points_of_call}
use Rattle.gp_stack.specs.Peek.{operation_of, first_of, then_at}
use Rattle.gp_stack.specs.kept.Looks.{steps, peek_of, points_of_action, points_of_all}
use Rattle.gp_stack.proofs.Levels.{drop_at, inside_does}
use Rattle.gp_stack.proofs.Moves.{body_cons, body_nil, here_end, trace_call, no_function, repeated_none, left_cons, left_none, left_next}
use Rattle.gp_stack.proofs.Peeks.{Sees, plus, peek_all, steps_local, peek_on, peek_stop, sees_none, sees_on, sees_stop, sees_end, peek_le, steps_called, peek_local, peek_then}
use Rattle.gp_stack.proofs.Climbing.{around}
use Rattle.gp_stack.proofs.Deep.{deep_enough, agree_body}
use Rattle.gp_stack.proofs.Stands.{does_one, does_within, next_work, next_shared, shared_point, over_ahead}
use Rattle.gp_stack.proofs.Points.{work_left}

found : (body : List Stmt) (at : ℕ) → at < length body → (s : Stmt) × (slice_get body at ≡ Some s)
found [] at within = absurd (omega arith)
found (s ∷ body) zero within = (s, refl)
found (s ∷ body) (suc at) within = found body at (omega arith)

-- a statement stands at each place of a body
pub does_at : (body : List Stmt) (at : ℕ) → at < length body → (a : Action) × Does body at a
does_at body at within =
    let f : (s : Stmt) × (slice_get body at ≡ Some s) = found body at within in
    (action_of f.0, record { statement = f.0; stands = f.1; does = refl })

-- a statement alone
pub one_between : (parts : Parts) (calls loops f : ℕ) (body : List Stmt) (at : ℕ) (a : Action) (d : Does body at a) →
    points_of_all parts calls loops f (between at (at + 1) body) ≡ points_of_action parts calls loops f (line_of d.statement) a
unfolding points_of_action points_of_all
one_between parts calls loops f body at a d =
    let one : at + 1 - at ≡ 1 = omega arith in
    rw (drop_at body at d.statement d.stands, one, body_cons (points_of_call parts calls) f loops d.statement [], d.does, body_nil (points_of_call parts calls) f loops)
    (append-nil (points_at (points_of_call parts calls) (points_of_body (points_of_call parts calls) f loops) f (line_of d.statement) a))

all_split : (parts : Parts) (calls loops f : ℕ) (body : List Stmt) (at to : ℕ) → at ≤ to →
    points_of_all parts calls loops f (drop at body) ≡ points_of_all parts calls loops f (between at to body) ++ points_of_all parts calls loops f (drop to body)
unfolding points_of_all
all_split parts calls loops f body at to before = body_between (points_of_call parts calls) f loops body at to before

on_split : (parts : Parts) (calls loops f : ℕ) (body : List Stmt) (at to : ℕ) → at ≤ to →
    steps (points_of_all parts calls loops f (drop at body)) ≡ steps (points_of_all parts calls loops f (between at to body)) ++ steps (points_of_all parts calls loops f (drop to body))
on_split parts calls loops f body at to before =
    ap steps (all_split parts calls loops f body at to before) ∙
    map-append (λ point. operation_of point.instruction) (points_of_all parts calls loops f (between at to body)) (points_of_all parts calls loops f (drop to body))

-- what the entries of a body tell of statements, with calls followed so deep as their stacks are
pub run_whole : (parts : Parts) → IsProgram parts → (test : Instruction → Bool) (body : List Stmt) (loops calls at : ℕ) (run : Run) → IsRun parts test body loops calls at run → (f : ℕ) →
    points_of_all parts calls loops f (between at run.to body) ≡ points_of_body (trace parts) f (suc loops) (between at run.to body)
unfolding points_of_all
run_whole parts program test body loops calls at run is f = agree_body (points_of_call parts calls) (trace parts) calls (deep_enough parts program calls) f (suc loops) (between at run.to body) (is.frames f)

pub run_local : (parts : Parts) → IsProgram parts → (body : List Stmt) (loops calls at : ℕ) (run : Run) → IsRun parts is_local body loops calls at run → (f : ℕ) →
    steps (points_of_all parts calls loops f (between at run.to body)) ≡ replicate run.points None
run_local parts program body loops calls at run is f =
    ap steps (run_whole parts program is_local body loops calls at run is f) ∙ (steps_local (points_of_body (trace parts) f (suc loops) (between at run.to body)) (is.pass f) ∙ ap (λ n. replicate n None) (is.points f))

abbrev Looked : Parts → ℕ → ℕ → List Stmt → ℕ → Peek → ℕ → Type 0
Looked parts calls loops body at seen limit =
    (f line : ℕ) (a : Action) → Does body at a → seen ≡ peek_of (steps (points_of_action parts calls loops f line a)) limit

abbrev LookedOver : Parts → ℕ → ℕ → List Stmt → ℕ → ℕ → Peek → ℕ → Type 0
LookedOver parts calls loops body at to seen limit = (f : ℕ) → seen ≡ peek_of (steps (points_of_all parts calls loops f (between at to body))) limit

pub looked_one : (parts : Parts) (calls loops : ℕ) (body : List Stmt) (at limit : ℕ) (seen : Peek) → at < length body → Looked parts calls loops body at seen limit → LookedOver parts calls loops body at (at + 1) seen limit
looked_one parts calls loops body at limit seen within looked f =
    let d : (a : Action) × Does body at a = does_at body at within in
    looked f (line_of d.1.statement) d.0 d.1 ∙ ap (λ points. peek_of (steps points) limit) (sym (one_between parts calls loops f body at d.0 d.1))

pub looked_run : (parts : Parts) → IsProgram parts → (body : List Stmt) (loops calls at limit : ℕ) (run : Run) (seen : Peek) → IsRun parts is_local body loops calls at run → seen ≡ peek_of (replicate run.points None) limit →
    LookedOver parts calls loops body at run.to seen limit
looked_run parts program body loops calls at limit run seen is found f = found ∙ ap (λ xs. peek_of xs limit) (sym (run_local parts program body loops calls at run is f))

abbrev SeesOn : Parts → ℕ → ℕ → List Stmt → ℕ → ℕ → ℕ → ℕ → Type 0
SeesOn parts calls loops body from at limit local =
    (f : ℕ) → Sees (steps (points_of_all parts calls loops f (drop from body))) limit local (steps (points_of_all parts calls loops f (drop at body)))

pub seen_few : (parts : Parts) (calls loops : ℕ) (body : List Stmt) (at to limit : ℕ) (seen : Peek) → LookedOver parts calls loops body at to seen limit → seen.local ≤ limit
seen_few parts calls loops body at to limit seen looked = rw (looked 0) (peek_le (steps (points_of_all parts calls loops 0 (between at to body))) limit)

pub seen_on : (parts : Parts) (calls loops : ℕ) (body : List Stmt) (from at to limit local : ℕ) (seen : Peek) → at < to → LookedOver parts calls loops body at to seen (limit - local) → SeesOn parts calls loops body from at limit local →
    seen.then ≡ Over → SeesOn parts calls loops body from to limit (local + seen.local)
seen_on parts calls loops body from at to limit local seen before looked sees over f =
    sees_on (steps (points_of_all parts calls loops f (drop from body))) (steps (points_of_all parts calls loops f (drop at body))) (steps (points_of_all parts calls loops f (between at to body)))
    (steps (points_of_all parts calls loops f (drop to body))) limit local seen (sees f) (on_split parts calls loops f body at to (omega arith)) (looked f) over

pub seen_stop : (parts : Parts) (calls loops : ℕ) (body : List Stmt) (from at to limit local : ℕ) (seen : Peek) → at < to → LookedOver parts calls loops body at to seen (limit - local) → SeesOn parts calls loops body from at limit local →
    (seen.then ≡ Over → ⊥) → (f : ℕ) → record { local = local + seen.local; then = seen.then } ≡ peek_of (steps (points_of_all parts calls loops f (drop from body))) limit
seen_stop parts calls loops body from at to limit local seen before looked sees more f =
    sees_stop (steps (points_of_all parts calls loops f (drop from body))) (steps (points_of_all parts calls loops f (drop at body))) (steps (points_of_all parts calls loops f (between at to body)))
    (steps (points_of_all parts calls loops f (drop to body))) limit local seen (sees f) (on_split parts calls loops f body at to (omega arith)) (looked f) more

pub all_nil : (parts : Parts) (calls loops f : ℕ) → points_of_all parts calls loops f [] ≡ []
unfolding points_of_all
all_nil parts calls loops f = body_nil (points_of_call parts calls) f loops

pub seen_end : (parts : Parts) (calls loops : ℕ) (body : List Stmt) (from at limit local : ℕ) → length body ≤ at → SeesOn parts calls loops body from at limit local → (f : ℕ) →
    record { local = local; then = Over } ≡ peek_of (steps (points_of_all parts calls loops f (drop from body))) limit
seen_end parts calls loops body from at limit local past sees f =
    let none : points_of_all parts calls loops f (drop at body) ≡ [] = ap (points_of_all parts calls loops f) (drop_all at body past) ∙ all_nil parts calls loops f in
    sees_end (steps (points_of_all parts calls loops f (drop from body))) limit local (subst (λ rest. Sees (steps (points_of_all parts calls loops f (drop from body))) limit local (steps rest)) none (sees f))

-- so many turns of local points are so many times as many
times_local : (n k : ℕ) (points : List Point) → steps points ≡ replicate k None → steps (repeated n points) ≡ replicate (k * n) None
times_local zero k points is = let none : k * zero ≡ 0 = omega arith in rw none refl
times_local (suc n) k points is =
    let next : k * suc n ≡ k + k * n = omega arith in
    rw next (map-append (λ point. operation_of point.instruction) points (repeated n points) ∙ (ap₂ (λ xs ys. xs ++ ys) is (times_local n k points is) ∙ replicate-append-replicate k (k * n) None))

pub turns_none : (parts : Parts) (calls loops n limit f : ℕ) (body : List Stmt) → n ≡ 0 → record { local = 0; then = Over } ≡ peek_of (steps (repeated n (points_of_all parts calls loops f body))) limit
turns_none parts calls loops n limit f body none = rw none refl

pub turns_stop : (parts : Parts) (calls loops n limit f : ℕ) (body : List Stmt) (once : Peek) → (n ≡ 0 → ⊥) → once ≡ peek_of (steps (points_of_all parts calls loops f body)) limit → (once.then ≡ Over → ⊥) →
    once ≡ peek_of (steps (repeated n (points_of_all parts calls loops f body))) limit
turns_stop parts calls loops zero limit f body once some is more = absurd (some refl)
turns_stop parts calls loops (suc n) limit f body once some is more =
    let points : List Point = points_of_all parts calls loops f body in
    is ∙ (sym (peek_stop (steps points) (steps (repeated n points)) limit (λ e. more (ap (λ p. p.then) is ∙ e))) ∙
    ap (λ xs. peek_of xs limit) (sym (map-append (λ point. operation_of point.instruction) points (repeated n points))))

pub turns_times : (parts : Parts) (calls loops n limit f : ℕ) (body : List Stmt) (once all : Peek) → once ≡ peek_of (steps (points_of_all parts calls loops f body)) limit → once.then ≡ Over →
    all ≡ peek_of (replicate (once.local * n) None) limit → all ≡ peek_of (steps (repeated n (points_of_all parts calls loops f body))) limit
turns_times parts calls loops n limit f body once all is over times =
    let points : List Point = points_of_all parts calls loops f body in
    let local : steps points ≡ replicate once.local None =
    peek_all (steps points) limit (sym (ap (λ p. p.then) is) ∙ over) ∙ ap (λ p. replicate p.local None) (sym is) in
    times ∙ ap (λ xs. peek_of xs limit) (sym (times_local n once.local points local))

-- what stands at a place is one statement
pub known : (P : Action → Type 0) (body : List Stmt) (at : ℕ) (b : Action) → Does body at b → P b → (a : Action) → Does body at a → P a
known P body at b d p a e = subst P (does_one body at b a d e) p

steps_work : (n : ℕ) (p : Point) → operation_of p.instruction ≡ None → steps (replicate n p) ≡ replicate n None
steps_work zero p local = refl
steps_work (suc n) p local = ap (λ o. o ∷ steps (replicate n p)) local ∙ ap (λ xs. None ∷ xs) (steps_work n p local)

abbrev LookedAs : Parts → ℕ → ℕ → Peek → ℕ → ℕ → ℕ → Action → Type 0
LookedAs parts calls loops seen limit f line a = seen ≡ peek_of (steps (points_of_action parts calls loops f line a)) limit

pub at_end : (parts : Parts) (calls loops : ℕ) (body : List Stmt) (at limit : ℕ) (seen : Peek) → length body ≤ at → Looked parts calls loops body at seen limit
at_end parts calls loops body at limit seen past f line a d =
    let within : at < length body = does_within body at d.statement d.stands in absurd (omega arith)

action_work : (parts : Parts) (calls loops f line n : ℕ) → steps (points_of_action parts calls loops f line (Work n)) ≡ replicate n None
unfolding points_of_action
action_work parts calls loops f line n = steps_work n (point_at f line LocalPoint) refl

pub at_work : (parts : Parts) (calls loops : ℕ) (body : List Stmt) (at limit n : ℕ) (seen : Peek) → Does body at (Work n) → seen ≡ peek_of (replicate n None) limit → Looked parts calls loops body at seen limit
at_work parts calls loops body at limit n seen d is f line =
    known (LookedAs parts calls loops seen limit f line) body at (Work n) d (is ∙ ap (λ xs. peek_of xs limit) (sym (action_work parts calls loops f line n)))

action_labels : (parts : Parts) (calls loops f line s : ℕ) → steps (points_of_action parts calls loops f line (Labels s)) ≡ None ∷ []
unfolding points_of_action
action_labels parts calls loops f line s = refl

pub at_labels : (parts : Parts) (calls loops : ℕ) (body : List Stmt) (at limit s : ℕ) (seen : Peek) → Does body at (Labels s) → seen ≡ peek_of (replicate 1 None) limit → Looked parts calls loops body at seen limit
at_labels parts calls loops body at limit s seen d is f line =
    known (LookedAs parts calls loops seen limit f line) body at (Labels s) d (is ∙ ap (λ xs. peek_of xs limit) (sym (action_labels parts calls loops f line s)))

action_shared : (parts : Parts) (calls loops f line : ℕ) (o : Operation) → steps (points_of_action parts calls loops f line (action_of_operation o)) ≡ Some o ∷ []
unfolding points_of_action
action_shared parts calls loops f line (operation.Send c) = refl
action_shared parts calls loops f line (operation.Recv c) = refl
action_shared parts calls loops f line (operation.Lock m) = refl
action_shared parts calls loops f line (operation.Unlock m) = refl
action_shared parts calls loops f line (operation.Spawn h) = refl

pub at_shared : (parts : Parts) (calls loops : ℕ) (body : List Stmt) (at limit : ℕ) (o : Operation) → Does body at (action_of_operation o) → Looked parts calls loops body at (record { local = 0; then = Shared o }) limit
at_shared parts calls loops body at limit o d f line =
    known (LookedAs parts calls loops (record { local = 0; then = Shared o }) limit f line) body at (action_of_operation o) d (ap (λ xs. peek_of xs limit) (sym (action_shared parts calls loops f line o)))

no_points : (parts : Parts) (calls loops : ℕ) (body : List Stmt) (at limit : ℕ) (b : Action) → Does body at b → ((f line : ℕ) → points_of_action parts calls loops f line b ≡ []) →
    Looked parts calls loops body at (record { local = 0; then = Over }) limit
no_points parts calls loops body at limit b d none f line =
    known (LookedAs parts calls loops (record { local = 0; then = Over }) limit f line) body at b d (ap (λ xs. peek_of (steps xs) limit) (sym (none f line)))

action_no_loop : (parts : Parts) (calls loops f line n end : ℕ) (inner : List Stmt) → loops ≡ 0 → points_of_action parts calls loops f line (Loop n inner end) ≡ []
unfolding points_of_action
action_no_loop parts calls loops f line n end inner none = rw none (repeated_none n)

pub at_no_loop : (parts : Parts) (calls loops : ℕ) (body : List Stmt) (at limit n : ℕ) (inner : List Stmt) → (end : ℕ) × Does body at (Loop n inner end) → loops ≡ 0 → Looked parts calls loops body at (record { local = 0; then = Over }) limit
at_no_loop parts calls loops body at limit n inner d none =
    no_points parts calls loops body at limit (Loop n inner d.0) d.1 (λ f line. action_no_loop parts calls loops f line n d.0 inner none)

action_loop : (parts : Parts) (calls loops f line n end : ℕ) (inner : List Stmt) → 0 < loops → repeated n (points_of_all parts calls (loops - 1) f inner) ≡ points_of_action parts calls loops f line (Loop n inner end)
unfolding points_of_action points_of_all
action_loop parts calls zero f line n end inner some = absurd (omega arith)
action_loop parts calls (suc loops) f line n end inner some = let same : suc loops - 1 ≡ loops = omega arith in rw same refl

pub at_loop : (parts : Parts) (calls loops : ℕ) (body : List Stmt) (at limit n : ℕ) (inner within : List Stmt) (seen : Peek) → (end : ℕ) × Does body at (Loop n inner end) → within ≡ body_inside body at → 0 < loops →
    ((f : ℕ) → seen ≡ peek_of (steps (repeated n (points_of_all parts calls (loops - 1) f within))) limit) → Looked parts calls loops body at seen limit
at_loop parts calls loops body at limit n inner within seen d its some is f line =
    known (LookedAs parts calls loops seen limit f line) body at (Loop n inner d.0) d.1 (is f ∙ ap (λ b. peek_of (steps (repeated n (points_of_all parts calls (loops - 1) f b))) limit) (its ∙ inside_does body at
    (Loop n inner d.0) d.1) ∙ ap (λ xs. peek_of (steps xs) limit) (action_loop parts calls loops f line n d.0 inner some))

action_no_call : (parts : Parts) (calls loops f line h : ℕ) → points_of_call parts calls h ≡ [] → points_of_action parts calls loops f line (Call h) ≡ []
unfolding points_of_action
action_no_call parts calls loops f line h none = ap (map (called_at f line)) none

pub at_no_call : (parts : Parts) (calls loops : ℕ) (body : List Stmt) (at limit h : ℕ) → Does body at (Call h) → calls ≡ 0 → Looked parts calls loops body at (record { local = 0; then = Over }) limit
at_no_call parts calls loops body at limit h d none =
    no_points parts calls loops body at limit (Call h) d (λ f line. action_no_call parts calls loops f line h (rw none refl))

pub at_no_function : (parts : Parts) (calls loops : ℕ) (body : List Stmt) (at limit h : ℕ) → Does body at (Call h) → length parts.functions ≤ h → Looked parts calls loops body at (record { local = 0; then = Over }) limit
at_no_function parts calls loops body at limit h d past =
    no_points parts calls loops body at limit (Call h) d (λ f line. action_no_call parts calls loops f line h (no_function parts calls h past))

call_points : (parts : Parts) (calls h : ℕ) → 0 < calls → points_of_all parts (calls - 1) 8 h (drop 0 (body_of parts h)) ≡ points_of_call parts calls h
unfolding points_of_all
call_points parts zero h some = absurd (omega arith)
call_points parts (suc calls) h some = let same : suc calls - 1 ≡ calls = omega arith in rw same (sym (trace_call parts calls h))

action_call : (parts : Parts) (calls loops f line h : ℕ) → steps (points_of_action parts calls loops f line (Call h)) ≡ steps (points_of_call parts calls h)
unfolding points_of_action
action_call parts calls loops f line h = steps_called (record { function = f; line = line } ∷ []) (points_of_call parts calls h)

pub at_call : (parts : Parts) (calls loops : ℕ) (body : List Stmt) (at limit h : ℕ) (called : List Stmt) (seen : Peek) → Does body at (Call h) → 0 < calls → called ≡ body_of parts h →
    ((f : ℕ) → seen ≡ peek_of (steps (points_of_all parts (calls - 1) 8 f (drop 0 called))) limit) → Looked parts calls loops body at seen limit
at_call parts calls loops body at limit h called seen d some same is f line =
    known (LookedAs parts calls loops seen limit f line) body at (Call h) d
    (is h ∙ (ap (λ b. peek_of (steps (points_of_all parts (calls - 1) 8 h (drop 0 b))) limit) same ∙ ap (λ xs. peek_of xs limit) (ap steps (call_points parts calls h some) ∙ sym (action_call parts calls loops f line h))))

-- a call whose function's points are known as a whole
pub at_known : (parts : Parts) → IsProgram parts → (calls loops : ℕ) (body : List Stmt) (at limit h : ℕ) (seen : Peek) → Does body at (Call h) → most_frames (trace parts h) ≤ calls → seen ≡ peek_of (steps (trace parts h)) limit →
    Looked parts calls loops body at seen limit
at_known parts program calls loops body at limit h seen d few is f line =
    known (LookedAs parts calls loops seen limit f line) body at (Call h) d
    (is ∙ ap (λ xs. peek_of xs limit) (ap steps (sym (deep_enough parts program calls h few)) ∙ sym (action_call parts calls loops f line h)))

-- what is left of a level: the rest of its statements, and then its turns
abbrev of_level : Parts → Level → List Stmt → List Point
of_level parts level body = points_of_all parts level.calls level.loops level.function body

level_split : (parts : Parts) (level : Level) (body : List Stmt) → steps (left_here parts level body) ≡ steps (of_level parts level (drop level.at body)) ++ steps (repeated level.turns (of_level parts level body))
unfolding left_here points_of_all
level_split parts level body =
    map-append (λ point. operation_of point.instruction) (points_of_all parts level.calls level.loops level.function (drop level.at body)) (repeated level.turns (points_of_all parts level.calls level.loops level.function body))

pub level_stop : (parts : Parts) (level : Level) (body other : List Stmt) (limit : ℕ) (first : Peek) → body ≡ other → ((f : ℕ) → first ≡ peek_of (steps (points_of_all parts level.calls level.loops f (drop level.at body))) limit) →
    (first.then ≡ Over → ⊥) → first ≡ peek_of (steps (left_here parts level other)) limit
level_stop parts level body other limit first same is more =
    rw (← same, level_split parts level body)
    (is level.function ∙ sym (peek_stop (steps (of_level parts level (drop level.at body))) (steps (repeated level.turns (of_level parts level body))) limit (λ e. more (ap (λ p. p.then) (is level.function) ∙ e))))

pub level_over : (parts : Parts) (level : Level) (body other : List Stmt) (limit : ℕ) → body ≡ other → level.turns ≡ 0 → length body ≤ level.at → record { local = 0; then = Over } ≡ peek_of (steps (left_here parts level other)) limit
level_over parts level body other limit same none past = rw (← same, here_end parts level body past, none) refl

pub level_on : (parts : Parts) (level : Level) (body other : List Stmt) (limit : ℕ) (first again : Peek) → body ≡ other → ((f : ℕ) → first ≡ peek_of (steps (points_of_all parts level.calls level.loops f (drop level.at body))) limit) →
    first.then ≡ Over → ((f : ℕ) → again ≡ peek_of (steps (repeated level.turns (points_of_all parts level.calls level.loops f body))) (limit - first.local)) →
    record { local = first.local + again.local; then = again.then } ≡ peek_of (steps (left_here parts level other)) limit
level_on parts level body other limit first again same is over turns =
    rw (← same, level_split parts level body) (ap (plus first.local) (turns level.function) ∙
    (ap (λ p. plus p.local (peek_of (steps (repeated level.turns (of_level parts level body))) (limit - p.local))) (is level.function) ∙
    sym (peek_on (steps (of_level parts level (drop level.at body))) (steps (repeated level.turns (of_level parts level body))) limit (sym (ap (λ p. p.then) (is level.function)) ∙ over))))

pub on_few : (parts : Parts) (calls loops from limit : ℕ) (body : List Stmt) (seen : Peek) → ((f : ℕ) → seen ≡ peek_of (steps (points_of_all parts calls loops f (drop from body))) limit) → seen.local ≤ limit
on_few parts calls loops from limit body seen is = rw (is 0) (peek_le (steps (points_of_all parts calls loops 0 (drop from body))) limit)

pub turns_few : (parts : Parts) (calls loops n limit : ℕ) (body : List Stmt) (seen : Peek) → ((f : ℕ) → seen ≡ peek_of (steps (repeated n (points_of_all parts calls loops f body))) limit) → seen.local ≤ limit
turns_few parts calls loops n limit body seen is = rw (is 0) (peek_le (steps (repeated n (points_of_all parts calls loops 0 body))) limit)

-- what is left of several levels
pub levels_split : (parts : Parts) (level : Level) (outer : List Level) → steps (left parts (level ∷ outer)) ≡ steps (left_here parts level (body_at parts level outer)) ++ steps (left parts outer)
levels_split parts level outer =
    ap steps (left_cons parts level outer) ∙ (map-append (λ point. operation_of point.instruction) (map (called_from (callers parts (is_base level) outer)) (left_here parts level (body_at parts level outer))) (left parts outer) ∙
    ap (λ xs. xs ++ steps (left parts outer)) (steps_called (callers parts (is_base level) outer) (left_here parts level (body_at parts level outer))))

abbrev pub LevelSeen : Parts → Level → List Level → Peek → ℕ → Type 0
LevelSeen parts level outer seen limit = seen ≡ peek_of (steps (left_here parts level (body_at parts level outer))) limit

pub first_stop : (parts : Parts) (level : Level) (outer : List Level) (limit : ℕ) (first : Peek) → LevelSeen parts level outer first limit → (first.then ≡ Over → ⊥) → first ≡ peek_of (steps (left parts (level ∷ outer))) limit
first_stop parts level outer limit first is more =
    rw (levels_split parts level outer) (is ∙ sym (peek_stop (steps (left_here parts level (body_at parts level outer))) (steps (left parts outer)) limit (λ e. more (ap (λ p. p.then) is ∙ e))))

pub first_on : (parts : Parts) (level : Level) (outer : List Level) (limit : ℕ) (first : Peek) → LevelSeen parts level outer first limit → first.then ≡ Over → Sees (steps (left parts (level ∷ outer))) limit first.local (steps (left parts outer))
first_on parts level outer limit first is over =
    let none : ℕ = 0 in
    let on : Sees (steps (left parts (level ∷ outer))) limit (0 + first.local) (steps (left parts outer)) =
    sees_on (steps (left parts (level ∷ outer))) (steps (left parts (level ∷ outer))) (steps (left_here parts level (body_at parts level outer))) (steps (left parts outer)) limit 0 first (sees_none (steps (left parts (level ∷ outer))) limit)
    (levels_split parts level outer) (is ∙ ap (peek_of (steps (left_here parts level (body_at parts level outer)))) (omega arith)) over in
    subst (λ n. Sees (steps (left parts (level ∷ outer))) limit n (steps (left parts outer))) (omega arith) on

pub level_few : (parts : Parts) (level : Level) (outer : List Level) (limit : ℕ) (seen : Peek) → LevelSeen parts level outer seen limit → seen.local ≤ limit
level_few parts level outer limit seen is = rw is (peek_le (steps (left_here parts level (body_at parts level outer))) limit)

pub outer_on : (parts : Parts) (xs : List (Option Operation)) (items : List Level) (k limit local : ℕ) (o : Level) (seen : Peek) → 0 < k → k ≤ length items → o ≡ get_or items (k - 1) o →
    LevelSeen parts o (reverse (take (k - 1) items)) seen (limit - local) → Sees xs limit local (steps (left parts (reverse (take k items)))) → seen.then ≡ Over → Sees xs limit (local + seen.local) (steps (left parts (reverse (take (k - 1) items))))
outer_on parts xs items k limit local o seen some within is looked sees over =
    sees_on xs (steps (left parts (reverse (take k items)))) (steps (left_here parts o (body_at parts o (reverse (take (k - 1) items))))) (steps (left parts (reverse (take (k - 1) items)))) limit local seen sees
    (ap (λ ls. steps (left parts ls)) (around items k o some within is) ∙ levels_split parts o (reverse (take (k - 1) items))) looked over

pub outer_stop : (parts : Parts) (xs : List (Option Operation)) (items : List Level) (k limit local : ℕ) (o : Level) (seen : Peek) → 0 < k → k ≤ length items → o ≡ get_or items (k - 1) o →
    LevelSeen parts o (reverse (take (k - 1) items)) seen (limit - local) → Sees xs limit local (steps (left parts (reverse (take k items)))) → (seen.then ≡ Over → ⊥) → record { local = local + seen.local; then = seen.then } ≡ peek_of xs limit
outer_stop parts xs items k limit local o seen some within is looked sees more =
    sees_stop xs (steps (left parts (reverse (take k items)))) (steps (left_here parts o (body_at parts o (reverse (take (k - 1) items))))) (steps (left parts (reverse (take (k - 1) items)))) limit local seen sees
    (ap (λ ls. steps (left parts ls)) (around items k o some within is) ∙ levels_split parts o (reverse (take (k - 1) items))) looked more

pub outer_end : (parts : Parts) (xs : List (Option Operation)) (items : List Level) (k limit local : ℕ) → k ≡ 0 → Sees xs limit local (steps (left parts (reverse (take k items)))) → record { local = local; then = Over } ≡ peek_of xs limit
outer_end parts xs items k limit local none sees =
    sees_end xs limit local (subst (λ ls. Sees xs limit local (steps ls)) (ap (λ n. left parts (reverse (take n items))) none ∙ left_none parts) sees)

pub fit_inner : (parts : Parts) (most k : ℕ) (items : List Level) (o : Level) → 0 < k → k ≤ length items → o ≡ get_or items (k - 1) o → Fit parts most (reverse (take k items)) → Fit parts most (o ∷ reverse (take (k - 1) items))
fit_inner parts most k items o some within is fit = subst (Fit parts most) (around items k o some within is) fit

pub past_stop : (xs ys : List (Option Operation)) (limit : ℕ) (first : Peek) → (first.then ≡ Over → ⊥) → first ≡ peek_of xs limit → first ≡ peek_of (xs ++ ys) limit
past_stop xs ys limit first more is = is ∙ sym (peek_stop xs ys limit (λ e. more (ap (λ p. p.then) is ∙ e)))

pub past_on : (xs ys : List (Option Operation)) (limit : ℕ) (first rest : Peek) → first.then ≡ Over → rest ≡ peek_of ys (limit - first.local) → first ≡ peek_of xs limit →
    record { local = first.local + rest.local; then = rest.then } ≡ peek_of (xs ++ ys) limit
past_on xs ys limit first rest over found is =
    ap (plus first.local) found ∙ (ap (λ p. plus p.local (peek_of ys (limit - p.local))) is ∙ sym (peek_on xs ys limit (sym (ap (λ p. p.then) is) ∙ over)))

-- what a look from a body finds, told by the trace
pub seen_is : (points : List Point) (count limit : ℕ) (seen : Peek) → seen ≡ peek_of (steps (drop count points)) limit → (seen.local ≡ min limit (local_ahead points count)) × (seen.then ≡ then_at points (count + seen.local))
unfolding local_ahead then_at
seen_is points count limit seen is = (
  ap (λ p. p.local) is ∙ peek_local (drop count points) limit,
  ap (λ p. p.then) is ∙ (peek_then (drop count points) limit ∙ (ap (λ p. first_of (drop p.local (drop count points))) (sym is) ∙ ap first_of (drop-drop seen.local count points))),
)

abbrev BodySeen : Parts → Body → Peek → ℕ → Type 0
BodySeen parts body seen limit = seen ≡ peek_of (steps (drop body.count (trace parts body.start))) limit

pub body_work : (parts : Parts) (body : Body) (n limit : ℕ) (first seen : Peek) → Does (body_at parts body.place.top (reverse body.place.outer.items)) body.place.top.at (Work n) → StandsIn parts body →
    first ≡ peek_of (replicate (n - body.passed) None) limit → ((xs : List (Option Operation)) → first ≡ peek_of xs limit → seen ≡ peek_of (xs ++ steps (left parts (stepped (levels body.place)))) limit) → BodySeen parts body seen limit
body_work parts body n limit first seen d stands found past =
    let level : Level = body.place.top in
    let outer : List Level = reverse body.place.outer.items in
    let p : Point = called_from (callers parts (is_base level) outer) (point_at level.function (line_of d.statement) LocalPoint) in
    let few : body.passed < n = stands.part (Work n) d in
    let next : drop body.count (trace parts body.start) ≡ replicate (n - body.passed) p ++ left parts (stepped (level ∷ outer)) =
    sym stands.left ∙ (ap (drop body.passed) (next_work parts level outer n d) ∙ work_left n body.passed p (left parts (stepped (level ∷ outer))) (omega arith)) in
    let shown : steps (drop body.count (trace parts body.start)) ≡ replicate (n - body.passed) None ++ steps (left parts (stepped (level ∷ outer))) =
    ap steps next ∙ (map-append (λ point. operation_of point.instruction) (replicate (n - body.passed) p) (left parts (stepped (level ∷ outer))) ∙ ap (λ xs. xs ++ steps (left parts (stepped (level ∷ outer)))) (steps_work (n - body.passed) p refl)) in
    past (replicate (n - body.passed) None) found ∙ ap (λ xs. peek_of xs limit) (sym shown)

pub body_labels : (parts : Parts) (body : Body) (s limit : ℕ) (first seen : Peek) → Does (body_at parts body.place.top (reverse body.place.outer.items)) body.place.top.at (Labels s) → StandsIn parts body → first ≡ peek_of (replicate 1 None) limit →
    ((xs : List (Option Operation)) → first ≡ peek_of xs limit → seen ≡ peek_of (xs ++ steps (left parts (stepped (levels body.place)))) limit) → BodySeen parts body seen limit
body_labels parts body s limit first seen d stands found past =
    let level : Level = body.place.top in
    let outer : List Level = reverse body.place.outer.items in
    let none : body.passed ≡ 0 = stands.part (Labels s) d in
    let shown : steps (drop body.count (trace parts body.start)) ≡ None ∷ steps (left parts (stepped (level ∷ outer))) =
    ap steps (sym stands.left ∙ (ap (λ passed. drop passed (left parts (levels body.place))) none ∙ left_next parts level outer (Labels s) d)) in
    past (replicate 1 None) found ∙ ap (λ xs. peek_of xs limit) (sym shown)

shared_step : (parts : Parts) (level : Level) (outer : List Level) (line : ℕ) (o : Operation) (rest : List Point) → steps ((shared_point parts level outer line o).point ∷ rest) ≡ Some o ∷ steps rest
unfolding shared_point
shared_step parts level outer line (operation.Send n) rest = refl
shared_step parts level outer line (operation.Recv n) rest = refl
shared_step parts level outer line (operation.Lock n) rest = refl
shared_step parts level outer line (operation.Unlock n) rest = refl
shared_step parts level outer line (operation.Spawn n) rest = refl

pub body_shared : (parts : Parts) (body : Body) (o : Operation) (limit : ℕ) → Does (body_at parts body.place.top (reverse body.place.outer.items)) body.place.top.at (action_of_operation o) → StandsIn parts body →
    BodySeen parts body (record { local = 0; then = Shared o }) limit
body_shared parts body o limit d stands =
    let shown : steps (drop body.count (trace parts body.start)) ≡ Some o ∷ steps (left parts (stepped (levels body.place))) =
    ap steps (next_shared parts body o d stands) ∙ shared_step parts body.place.top (reverse body.place.outer.items) (line_of d.statement) o (left parts (stepped (levels body.place))) in
    ap (λ xs. peek_of xs limit) (sym shown)

pub body_over : (parts : Parts) (body : Body) (limit : ℕ) → length (body_at parts body.place.top (reverse body.place.outer.items)) ≤ body.place.top.at → StandsIn parts body → BodySeen parts body (record { local = 0; then = Over }) limit
body_over parts body limit past stands = ap (λ xs. peek_of (steps xs) limit) (sym (over_ahead parts body past stands))
