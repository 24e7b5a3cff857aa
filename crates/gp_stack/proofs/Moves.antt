-- Moves that pass no point leave the points that are left as they are.
use Rattle.std.proofs.Common.{◌≡◌, ◌≤◌, ◌+◌, ◌-◌, ℕ, zero, suc, Bool, true, false, List, [], ◌∷◌, ◌++◌, None, length, drop, map, reverse, refl, ap, sym, ◌∙◌, arith, add-one}
use Rattle.std.proofs.lemmas.List.{append_assoc, append-nil, map-append, drop_all}
use Rattle.std.specs.Prelude.{slice_get}
use Rattle.gp_isa.specs.declared.frame.Frame.{Frame}
use Rattle.gp_isa.specs.declared.parts.Parts.{Parts}
use Rattle.gp_isa.specs.declared.parts.Function.{Function}
use Rattle.gp_isa.specs.declared.statement.Stmt.{Stmt}
use Rattle.gp_isa.specs.declared.statement.What.TheOpen.{Call, Loop}
use Rattle.gp_isa.specs.Statement.{Action, action_of, line_of, most_bodies}
use Rattle.gp_isa.specs.Trace.{Point, called_at, repeated, points_at, points_of_body, body_of, trace_within, trace}
use Rattle.gp_stack.specs.declared.level.Level.{Level}
use Rattle.gp_isa.specs.Block.{between}
use Rattle.gp_isa.proofs.Runs.{body_between}
use Rattle.gp_stack.specs.kept.Level.{is_base, body_inside, line_at, body_at, frame_of, callers, called_from, points_of_call, points_of_statements, left_here, left}
use Rattle.gp_stack.specs.kept.Place.{stepped, turned}
use Rattle.gp_stack.specs.kept.Ahead.{Does}
use Rattle.gp_stack.proofs.Levels.{drop_at, inside_does, base_false, looped}

pub body_cons : (calls : ℕ → List Point) (f deep : ℕ) (s : Stmt) (body : List Stmt) → points_of_body calls f (suc deep) (s ∷ body)
    ≡ points_at calls (points_of_body calls f deep) f (line_of s) (action_of s) ++ points_of_body calls f (suc deep) body
body_cons calls f deep s body = refl

pub body_nil : (calls : ℕ → List Point) (f deep : ℕ) → points_of_body calls f (suc deep) [] ≡ []
body_nil calls f deep = refl

pub repeated_none : (n : ℕ) → repeated n [] ≡ []
repeated_none zero = refl
repeated_none (suc n) = repeated_none n

-- a level at another statement of its body
abbrev pub moved : Level → ℕ → Level
moved level at = record level { at = at }

pub body_moved : (parts : Parts) (level : Level) (at : ℕ) (outer : List Level) → body_at parts (moved level at) outer ≡ body_at parts level outer
unfolding body_at
body_moved parts level at [] = refl
body_moved parts level at (o ∷ outer) = refl

-- what the statement at a level adds to the points
abbrev pub added : Parts → Level → ℕ → Action → List Point
added parts level line a = points_at (points_of_call parts level.calls) (points_of_body (points_of_call parts level.calls) level.function level.loops) level.function line a

pub here_next : (parts : Parts) (level : Level) (body : List Stmt) (a : Action) (d : Does body level.at a) → left_here parts level body ≡ added parts level (line_of d.statement) a ++ left_here parts (moved level (level.at + 1)) body
unfolding left_here
here_next parts level body a d =
    let calls : ℕ → List Point = points_of_call parts level.calls in
    let next : drop level.at body ≡ d.statement ∷ drop (suc level.at) body = drop_at body level.at d.statement d.stands in
    rw (next, add-one level.at, body_cons calls level.function level.loops d.statement (drop (suc level.at) body), d.does)
    (append_assoc (added parts level (line_of d.statement) a) (points_of_statements parts level (drop (suc level.at) body)) (repeated level.turns (points_of_statements parts level body)))

regrouped : (f : Point → Point) (xs ys zs : List Point) → map f (xs ++ ys) ++ zs ≡ map f xs ++ (map f ys ++ zs)
regrouped f xs ys zs = rw map-append (append_assoc (map f xs) (map f ys) zs)

pub left_next : (parts : Parts) (level : Level) (outer : List Level) (a : Action) (d : Does (body_at parts level outer) level.at a) → left parts (level ∷ outer) ≡ map (called_from (callers parts (is_base level) outer))
    (added parts level (line_of d.statement) a) ++ left parts (stepped (level ∷ outer))
unfolding left
left_next parts level outer a d =
    rw (here_next parts level (body_at parts level outer) a d, body_moved parts level (level.at + 1) outer)
    (regrouped (called_from (callers parts (is_base level) outer)) (added parts level (line_of d.statement) a) (left_here parts (moved level (level.at + 1)) (body_at parts level outer)) (left parts outer))

-- statements of a level up to another one, and then the others
here_run : (parts : Parts) (level : Level) (body : List Stmt) (to : ℕ) → level.at ≤ to → left_here parts level body ≡ points_of_statements parts level (between level.at to body) ++ left_here parts (moved level to) body
unfolding left_here
here_run parts level body to before =
    ap (λ points. points ++ repeated level.turns (points_of_statements parts level body)) (body_between (points_of_call parts level.calls) level.function level.loops body level.at to before) ∙
    append_assoc (points_of_statements parts level (between level.at to body)) (points_of_statements parts level (drop to body)) (repeated level.turns (points_of_statements parts level body))

pub left_run : (parts : Parts) (level : Level) (outer : List Level) (to : ℕ) → level.at ≤ to → left parts (level ∷ outer) ≡ map (called_from (callers parts (is_base level) outer))
    (points_of_statements parts level (between level.at to (body_at parts level outer))) ++ left parts (moved level to ∷ outer)
unfolding left
left_run parts level outer to before =
    rw (here_run parts level (body_at parts level outer) to before, body_moved parts level to outer)
    (regrouped (called_from (callers parts (is_base level) outer)) (points_of_statements parts level (between level.at to (body_at parts level outer))) (left_here parts (moved level to) (body_at parts level outer)) (left parts outer))

-- the levels with the innermost set apart
pub left_cons : (parts : Parts) (level : Level) (outer : List Level) → left parts (level ∷ outer) ≡ map (called_from (callers parts (is_base level) outer)) (left_here parts level (body_at parts level outer)) ++ left parts outer
unfolding left
left_cons parts level outer = refl

-- a statement without points
pub left_skip : (parts : Parts) (level : Level) (outer : List Level) (a : Action) (d : Does (body_at parts level outer) level.at a) → added parts level (line_of d.statement) a ≡ [] → left parts (stepped (level ∷ outer)) ≡ left parts (level ∷ outer)
left_skip parts level outer a d none = sym (left_next parts level outer a d ∙ (rw none refl))

-- the first turn of a loop is begun at its end
abbrev pub loop_level : Level → ℕ → ℕ → List Stmt → Level
loop_level level k n body = record { at = length body; turns = n; calls = level.calls; function = level.function; loops = k }

pub body_of_loop : (parts : Parts) (level new : Level) (outer : List Level) (n end : ℕ) (body : List Stmt) → is_base new ≡ false → Does (body_at parts level outer) level.at (Loop n body end) →
    body_at parts new (moved level (level.at + 1) ∷ outer) ≡ body
unfolding body_at
body_of_loop parts level new outer n end body inner d =
    let same : level.at + 1 - 1 ≡ level.at = omega arith in
    let found : body_inside (body_at parts (moved level (level.at + 1)) outer) (level.at + 1 - 1) ≡ body =
    rw (body_moved parts level (level.at + 1) outer, same) (inside_does (body_at parts level outer) level.at (Loop n body end) d) in
    sym (looped parts new (moved level (level.at + 1)) outer inner) ∙ found

callers_in_loop : (parts : Parts) (level : Level) (outer : List Level) → callers parts false (level ∷ outer) ≡ callers parts (is_base level) outer
unfolding callers
callers_in_loop parts level outer = refl

loop_here : (parts : Parts) (level : Level) (k n : ℕ) (body : List Stmt) → left_here parts (loop_level level k n body) body ≡ repeated n (points_of_body (points_of_call parts level.calls) level.function (suc k) body)
unfolding left_here
loop_here parts level k n body = rw (drop_all (length body) body (omega arith)) refl

pub left_loop : (parts : Parts) (level : Level) (outer : List Level) (k n end : ℕ) (body : List Stmt) → level.loops ≡ suc k → level.loops ≤ 8 → Does (body_at parts level outer) level.at (Loop n body end) →
    left parts (loop_level level k n body ∷ stepped (level ∷ outer)) ≡ left parts (level ∷ outer)
left_loop parts level outer k n end body loops few d =
    let new : Level = loop_level level k n body in
    let inner : is_base new ≡ false = base_false new (λ e. omega arith) in
    let points : List Point = repeated n (points_of_body (points_of_call parts level.calls) level.function (suc k) body) in
    let in_loop : left parts (new ∷ stepped (level ∷ outer)) ≡ map (called_from (callers parts (is_base level) outer)) points ++ left parts (stepped (level ∷ outer)) =
    left_cons parts new (stepped (level ∷ outer)) ∙ (rw (inner, body_of_loop parts level new outer n end body inner d, loop_here parts level k n body, callers_in_loop parts (moved level (level.at + 1)) outer) refl) in
    let adds : added parts level (line_of d.statement) (Loop n body end) ≡ points = rw loops refl in
    in_loop ∙ sym (left_next parts level outer (Loop n body end) d ∙ (rw adds refl))

-- the body of a function called, at its start
abbrev pub call_level : Level → ℕ → ℕ → Level
call_level level k h = record { at = 0; turns = 0; calls = k; function = h; loops = 8 }

pub trace_call : (parts : Parts) (k h : ℕ) → trace_within parts k h ≡ points_of_body (points_of_call parts k) h most_bodies (body_of parts h)
unfolding trace_within
trace_call parts zero h = refl
trace_call parts (suc k) h = refl

pub body_of_call : (parts : Parts) (level : Level) (outer : List Level) (k h : ℕ) → body_at parts (call_level level k h) outer ≡ body_of parts h
unfolding body_at
body_of_call parts level [] k h = refl
body_of_call parts level (o ∷ outer) k h = refl

callers_in_call : (parts : Parts) (level : Level) (outer : List Level) → callers parts true (level ∷ outer) ≡ frame_of parts level outer ∷ callers parts (is_base level) outer
unfolding callers
callers_in_call parts level outer = refl

frame_of_call : (parts : Parts) (level : Level) (outer : List Level) (a : Action) (d : Does (body_at parts level outer) level.at a) → frame_of parts (moved level (level.at + 1)) outer ≡ record { function = level.function; line = line_of d.statement }
unfolding frame_of
frame_of_call parts level outer a d =
    let same : level.at + 1 - 1 ≡ level.at = omega arith in
    rw (same, body_moved parts level (level.at + 1) outer, line_at, d.stands) refl

call_here : (parts : Parts) (level : Level) (k h : ℕ) → left_here parts (call_level level k h) (body_of parts h) ≡ trace_within parts k h
unfolding left_here
call_here parts level k h = append-nil (points_of_body (points_of_call parts k) h most_bodies (body_of parts h)) ∙ sym (trace_call parts k h)

-- a frame put last, and then those of its callers
map_called : (f line : ℕ) (frames : List Frame) (points : List Point) → map (called_from frames) (map (called_at f line) points) ≡ map (called_from (record { function = f; line = line } ∷ frames)) points
map_called f line frames [] = refl
map_called f line frames (p ∷ points) = rw (append_assoc p.stack (record { function = f; line = line } ∷ []) frames, map_called f line frames points) refl

pub left_call : (parts : Parts) (level : Level) (outer : List Level) (k h : ℕ) → level.calls ≡ suc k → Does (body_at parts level outer) level.at (Call h) → left parts (call_level level k h ∷ stepped (level ∷ outer)) ≡ left parts (level ∷ outer)
left_call parts level outer k h calls d =
    let new : Level = call_level level k h in
    let frame : Frame = record { function = level.function; line = line_of d.statement } in
    let points : List Point = trace_within parts k h in
    let in_call : left parts (new ∷ stepped (level ∷ outer)) ≡ map (called_from (frame ∷ callers parts (is_base level) outer)) points ++ left parts (stepped (level ∷ outer)) =
    left_cons parts new (stepped (level ∷ outer)) ∙
    (rw (body_of_call parts level (moved level (level.at + 1) ∷ outer) k h, call_here parts level k h, callers_in_call parts (moved level (level.at + 1)) outer, frame_of_call parts level outer (Call h) d) refl) in
    let adds : added parts level (line_of d.statement) (Call h) ≡ map (called_at level.function (line_of d.statement)) points = rw calls refl in
    in_call ∙ sym (left_next parts level outer (Call h) d ∙ (rw (adds, map_called level.function (line_of d.statement) (callers parts (is_base level) outer) points) refl))

no_body : (functions : List Function) (h : ℕ) → length functions ≤ h → slice_get functions h ≡ None
no_body [] h past = refl
no_body (f ∷ functions) zero past = absurd (omega arith)
no_body (f ∷ functions) (suc h) past = no_body functions h (omega arith)

pub no_function : (parts : Parts) (depth h : ℕ) → length parts.functions ≤ h → points_of_call parts depth h ≡ []
no_function parts zero h past = refl
no_function parts (suc depth) h past = trace_call parts depth h ∙ (rw (body_of, no_body parts.functions h past) refl)

-- a call that isn't followed, or of no function
pub added_no_call : (parts : Parts) (level : Level) (line h : ℕ) → level.calls ≡ 0 → added parts level line (Call h) ≡ []
added_no_call parts level line h none = rw none refl

pub added_no_function : (parts : Parts) (level : Level) (line h : ℕ) → length parts.functions ≤ h → added parts level line (Call h) ≡ []
added_no_function parts level line h past = ap (map (called_at level.function line)) (no_function parts level.calls h past)

pub added_no_loop : (parts : Parts) (level : Level) (line n end : ℕ) (body : List Stmt) → level.loops ≡ 0 → added parts level line (Loop n body end) ≡ []
added_no_loop parts level line n end body none = rw none (repeated_none n)

-- the end of a level
pub here_end : (parts : Parts) (level : Level) (body : List Stmt) → length body ≤ level.at → left_here parts level body ≡ repeated level.turns (points_of_statements parts level body)
unfolding left_here
here_end parts level body past = rw (drop_all level.at body past) refl

here_turn : (parts : Parts) (level : Level) (body : List Stmt) (n : ℕ) → left_here parts (record level { at = 0; turns = n }) body ≡ repeated (suc n) (points_of_statements parts level body)
unfolding left_here
here_turn parts level body n = refl

pub body_turned : (parts : Parts) (level : Level) (n : ℕ) (outer : List Level) → body_at parts (record level { at = 0; turns = n }) outer ≡ body_at parts level outer
unfolding body_at
body_turned parts level n [] = refl
body_turned parts level n (o ∷ outer) = refl

pub body_turning : (parts : Parts) (level : Level) (n : ℕ) (outer : List Level) → body_at parts (record level { turns = n }) outer ≡ body_at parts level outer
unfolding body_at
body_turning parts level n [] = refl
body_turning parts level n (o ∷ outer) = refl

pub left_turned : (parts : Parts) (level : Level) (outer : List Level) (n : ℕ) → length (body_at parts level outer) ≤ level.at → level.turns ≡ n → left parts (turned n level outer) ≡ left parts (level ∷ outer)
left_turned parts level outer zero past turns =
    sym (left_cons parts level outer ∙ (rw (here_end parts level (body_at parts level outer) past, turns) refl))
left_turned parts level outer (suc n) past turns =
    let points : List Point = points_of_statements parts level (body_at parts level outer) in
    let again : left_here parts level (body_at parts level outer) ≡ repeated (suc n) points =
    here_end parts level (body_at parts level outer) past ∙ ap (λ m. repeated m points) turns in
    left_cons parts (record level { at = 0; turns = n }) outer ∙ (rw (body_turned parts level n outer, here_turn parts level (body_at parts level outer) n) (sym (left_cons parts level outer ∙ (rw again refl))))

map_no_callers : (points : List Point) → map (called_from []) points ≡ points
map_no_callers [] = refl
map_no_callers (p ∷ points) = rw (append-nil p.stack, map_no_callers points) refl

no_callers : (parts : Parts) (called : Bool) → callers parts called [] ≡ []
unfolding callers
no_callers parts called = refl

pub left_none : (parts : Parts) → left parts [] ≡ []
unfolding left
left_none parts = refl

-- a function is begun with its whole trace left
pub left_begin : (parts : Parts) (f calls : ℕ) (outer : List Level) → trace_within parts calls f ≡ trace parts f → outer ≡ [] → left parts (record { at = 0; turns = 0; calls = calls; function = f; loops = 8 } ∷ reverse outer) ≡ trace parts f
unfolding trace
left_begin parts f calls outer all none =
    let level : Level = record { at = 0; turns = 0; calls = calls; function = f; loops = 8 } in
    let begun : left parts (level ∷ []) ≡ trace_within parts calls f =
    left_cons parts level [] ∙ (rw (left_none parts, no_callers parts (is_base level), body_of_call parts level [] calls f, call_here parts level calls f) (append-nil (map (called_from []) (trace_within parts calls f)) ∙
    map_no_callers (trace_within parts calls f))) in
    ap (λ ls. left parts (level ∷ reverse ls)) none ∙ (begun ∙ all)
