-- What the moves of a place keep.
use Rattle.std.proofs.Common.{◌≡◌, ◌<◌, ◌≤◌, ◌+◌, ◌-◌, ◌*◌, ℕ, zero, suc, List, [], ◌∷◌, length, reverse, refl, sym, ap, ◌∙◌, subst, arith}
use Rattle.std.proofs.Common.{Bool, true, false}
use Rattle.std.specs.Bool.{OnTrue, OnFalse}
use Rattle.std.specs.Prelude.{vec_capacity}
use Rattle.gp_isa.specs.declared.block.Block.{Block}
use Rattle.gp_isa.specs.declared.parts.Parts.{Parts}
use Rattle.gp_isa.specs.declared.statement.Stmt.{Stmt}
use Rattle.gp_isa.specs.declared.statement.What.TheOpen.{Call, Loop, Send, Recv, Lock, Unlock, Spawn}
use Rattle.gp_isa.specs.Nesting.{loops_in, nesting_of}
use Rattle.gp_isa.specs.Size.{depth_of}
use Rattle.gp_isa.specs.Statement.{line_of, most_bodies}
use Rattle.gp_isa.specs.Trace.{body_of}
use Rattle.gp_isa.proofs.NestedLoops.{nested, nesting_there}
use Rattle.gp_stack.specs.declared.level.Level.{Level}
use Rattle.gp_stack.specs.declared.place.Place.{Place}
use Rattle.gp_stack.specs.declared.statement.Operation.{Operation}
use Rattle.gp_stack.specs.declared.statement.Operation.TheVariants as operation
use Rattle.gp_stack.specs.kept.Level.{is_base, body_at, left}
use Rattle.gp_stack.specs.kept.Cost.{cost}
use Rattle.gp_stack.specs.kept.Ahead.{Does, action_of_operation}
use Rattle.gp_stack.specs.kept.Place.{stepped, turned, left_behind, looped, called, levels, room, Fit, IsHere, IsIn, IsSettled, AtPoint}
use Rattle.gp_stack.proofs.Levels.{base_false}
use Rattle.gp_stack.proofs.Moves.{moved, body_moved, body_turned, body_turning, loop_level, call_level, body_of_loop, body_of_call, left_skip, left_loop, left_call, left_turned, added_no_loop, added_no_call}
use Rattle.gp_stack.proofs.Costs.{cost_skip, cost_loop, cost_call, cost_turned}

-- a level whose body is the same
fit_body : (parts : Parts) (most length_outer calls loops : ℕ) (body other : List Stmt) → body ≡ other → length_outer + ((nesting_of parts + 1) * calls + loops_in (suc loops) other) ≤ most →
    length_outer + ((nesting_of parts + 1) * calls + loops_in (suc loops) body) ≤ most
fit_body parts most length_outer calls loops body other same fit = subst (λ b. length_outer + ((nesting_of parts + 1) * calls + loops_in (suc loops) b) ≤ most) (sym same) fit

pub fit_moved : (parts : Parts) (most at : ℕ) (level : Level) (outer : List Level) → Fit parts most (level ∷ outer) → Fit parts most (moved level at ∷ outer)
fit_moved parts most at level outer fit = (fit_body parts most (length outer) level.calls level.loops (body_at parts (moved level at) outer) (body_at parts level outer) (body_moved parts level at outer) fit.0, fit.1, fit.2)

pub fit_stepped : (parts : Parts) (most : ℕ) (level : Level) (outer : List Level) → Fit parts most (level ∷ outer) → Fit parts most (stepped (level ∷ outer))
fit_stepped parts most level outer fit = fit_moved parts most (level.at + 1) level outer fit

pub fit_turning : (parts : Parts) (most n : ℕ) (level : Level) (outer : List Level) → Fit parts most (level ∷ outer) → Fit parts most (record level { turns = n } ∷ outer)
fit_turning parts most n level outer fit = (fit_body parts most (length outer) level.calls level.loops (body_at parts (record level { turns = n }) outer) (body_at parts level outer) (body_turning parts level n outer) fit.0, fit.1, fit.2)

pub fit_turned : (parts : Parts) (most n : ℕ) (level : Level) (outer : List Level) → Fit parts most (level ∷ outer) → Fit parts most (turned n level outer)
fit_turned parts most zero level outer fit = fit.2
fit_turned parts most (suc n) level outer fit =
    (fit_body parts most (length outer) level.calls level.loops (body_at parts (record level { at = 0; turns = n }) outer) (body_at parts level outer) (body_turned parts level n outer) fit.0, fit.1, fit.2)

pub fit_left : (parts : Parts) (most : ℕ) (level : Level) (outer levels : List Level) (b : Bool) → Fit parts most (level ∷ outer) → OnTrue b (levels ≡ left_behind (level ∷ outer)) → OnFalse b (levels ≡ level ∷ outer) → Fit parts most levels
fit_left parts most level outer levels true fit left stays = subst (Fit parts most) (sym left) (fit_turned parts most level.turns level outer fit)
fit_left parts most level outer levels false fit left stays = subst (Fit parts most) (sym stays) fit

loop_levels : (loops : ℕ) (body inner : List Stmt) (at n end : ℕ) → Does body at (Loop n inner end) → loops_in loops inner + 1 ≤ loops_in (suc loops) body
loop_levels loops body inner at n end d = nested loops body at d.statement n end inner d.stands d.does

-- a loop has room for its level
pub loop_room : (parts : Parts) (most : ℕ) (level : Level) (outer : List Level) (n : ℕ) (body : List Stmt) → (end : ℕ) × Does (body_at parts level outer) level.at (Loop n body end) → Fit parts most (level ∷ outer) → length outer < most
loop_room parts most level outer n body d fit = omega (arith, fit.0, loop_levels level.loops (body_at parts level outer) body level.at n d.0 d.1)

pub fit_looped : (parts : Parts) (most loops n : ℕ) (level : Level) (outer : List Level) (body : List Stmt) → level.loops ≡ loops → (end : ℕ) × Does (body_at parts level outer) level.at (Loop n body end) → Fit parts most (level ∷ outer) →
    Fit parts most (looped loops n (length body) level outer)
fit_looped parts most zero n level outer body e d fit = fit_stepped parts most level outer fit
fit_looped parts most (suc loops) n level outer body e d fit =
    let new : Level = loop_level level loops n body in
    let inner : is_base new ≡ false = base_false new (λ h. omega (arith, fit.1)) in
    let same : body_at parts new (moved level (level.at + 1) ∷ outer) ≡ body = body_of_loop parts level new outer n d.0 body inner d.1 in
    let more : loops_in (suc loops) body + 1 ≤ loops_in (suc (suc loops)) (body_at parts level outer) = loop_levels (suc loops) (body_at parts level outer) body level.at n d.0 d.1 in
    let old : length outer + ((nesting_of parts + 1) * level.calls + loops_in (suc (suc loops)) (body_at parts level outer)) ≤ most =
    subst (λ k. length outer + ((nesting_of parts + 1) * level.calls + loops_in (suc k) (body_at parts level outer)) ≤ most) e fit.0 in (
      fit_body parts most (suc (length outer)) level.calls loops (body_at parts new (moved level (level.at + 1) ∷ outer)) body same (omega arith),
      omega (arith, fit.1),
      fit_stepped parts most level outer fit,
    )

-- a call has room for its level
pub call_room : (parts : Parts) (most : ℕ) (level : Level) (outer : List Level) → Fit parts most (level ∷ outer) → length outer + level.calls ≤ most
call_room parts most level outer fit = omega (arith, fit.0)

pub fit_called : (parts : Parts) (most calls f : ℕ) (level : Level) (outer : List Level) → level.calls ≡ calls → Fit parts most (level ∷ outer) → Fit parts most (called calls f level outer)
fit_called parts most zero f level outer e fit = fit_stepped parts most level outer fit
fit_called parts most (suc calls) f level outer e fit =
    let same : body_at parts (call_level level calls f) (moved level (level.at + 1) ∷ outer) ≡ body_of parts f = body_of_call parts level (moved level (level.at + 1) ∷ outer) calls f in
    let few : loops_in most_bodies (body_of parts f) ≤ nesting_of parts = nesting_there parts f in
    let all : (nesting_of parts + 1) * level.calls ≡ (nesting_of parts + 1) * calls + (nesting_of parts + 1) = ap (λ c. (nesting_of parts + 1) * c) e ∙ omega arith in (
      fit_body parts most (suc (length outer)) calls 8 (body_at parts (call_level level calls f) (moved level (level.at + 1) ∷ outer)) (body_of parts f) same (omega (arith, fit.0)),
      omega arith,
      fit_stepped parts most level outer fit,
    )

-- where a function is begun
pub fit_begun : (parts : Parts) (f calls : ℕ) (outer : List Level) → calls ≡ depth_of parts - 1 → outer ≡ [] → Fit parts (room parts) (record { at = 0; turns = 0; calls = calls; function = f; loops = 8 } ∷ reverse outer)
unfolding body_at
fit_begun parts f calls outer whole none =
    let few : loops_in most_bodies (body_of parts f) ≤ nesting_of parts = nesting_there parts f in
    let all : (nesting_of parts + 1) * calls ≡ (nesting_of parts + 1) * (depth_of parts - 1) = ap (λ c. (nesting_of parts + 1) * c) whole in
    rw none (omega arith, omega arith, tt)

-- a place after a move
pub is_in : (parts : Parts) (place new : Place) (ls : List Level) → IsIn parts place → levels new ≡ ls → Fit parts (room parts) ls → vec_capacity new.outer ≡ vec_capacity place.outer → IsIn parts new
is_in parts place new ls old same fit capacity = record { fit = subst (Fit parts (room parts)) (sym same) fit; reserved = subst (λ n. room parts ≤ n) (sym capacity) old.reserved }

-- what was looked up of the innermost level
abbrev HereIn : Parts → Block → List Level → Type 0
HereIn parts block [] = Unit {0}
HereIn parts block (level ∷ outer) = IsHere parts level outer block

-- it stays what it is at the next statement
pub here_stepped : (parts : Parts) (new : Place) (level : Level) (outer : List Level) (block : Block) → levels new ≡ stepped (level ∷ outer) → IsHere parts level outer block → IsHere parts new.top (reverse new.outer.items) block
here_stepped parts new level outer block same is =
    let next : HereIn parts block (stepped (level ∷ outer)) = record { statements = is.statements ∙ sym (body_moved parts level (level.at + 1) outer); kept = is.kept } in
    subst (HereIn parts block) (sym same) next

pub looped_some : (loops n len : ℕ) (level : Level) (outer : List Level) → 0 < loops → record { at = len; turns = n; calls = level.calls; function = level.function; loops = loops - 1 } ∷ stepped (level ∷ outer) ≡ looped loops n len level outer
looped_some zero n len level outer some = absurd (omega arith)
looped_some (suc loops) n len level outer some = let same : suc loops - 1 ≡ loops = omega arith in rw same refl

pub looped_none : (loops n len : ℕ) (level : Level) (outer : List Level) → loops ≡ 0 → stepped (level ∷ outer) ≡ looped loops n len level outer
looped_none loops n len level outer none = rw none refl

pub called_some : (calls f : ℕ) (level : Level) (outer : List Level) → 0 < calls → record { at = 0; turns = 0; calls = calls - 1; function = f; loops = 8 } ∷ stepped (level ∷ outer) ≡ called calls f level outer
called_some zero f level outer some = absurd (omega arith)
called_some (suc calls) f level outer some = let same : suc calls - 1 ≡ calls = omega arith in rw same refl

pub called_none : (calls f : ℕ) (level : Level) (outer : List Level) → calls ≡ 0 → stepped (level ∷ outer) ≡ called calls f level outer
called_none calls f level outer none = rw none refl

pub left_end : (parts : Parts) (level : Level) (outer levels : List Level) (b : Bool) → length (body_at parts level outer) ≤ level.at → OnTrue b (levels ≡ left_behind (level ∷ outer)) → OnFalse b (levels ≡ level ∷ outer) →
    left parts levels ≡ left parts (level ∷ outer)
left_end parts level outer levels true past left stays = rw left (left_turned parts level outer level.turns past refl)
left_end parts level outer levels false past left stays = rw stays refl

pub falls_end : (parts : Parts) (level : Level) (outer levels : List Level) (b : Bool) → length (body_at parts level outer) ≤ level.at → OnTrue b (levels ≡ left_behind (level ∷ outer)) → OnTrue b (cost parts levels < cost parts (level ∷ outer))
falls_end parts level outer levels true past left = rw left (cost_turned parts level outer level.turns past refl)
falls_end parts level outer levels false past left = tt

pub falls_most : (parts : Parts) (level : Level) (outer levels : List Level) (b : Bool) → length (body_at parts level outer) ≤ level.at → OnTrue b (levels ≡ left_behind (level ∷ outer)) → OnFalse b (levels ≡ level ∷ outer) →
    cost parts levels ≤ cost parts (level ∷ outer)
falls_most parts level outer levels true past left stays = let less : cost parts levels < cost parts (level ∷ outer) = falls_end parts level outer levels true past left in omega arith
falls_most parts level outer levels false past left stays = rw stays (omega arith)

pub left_looped : (parts : Parts) (level : Level) (outer : List Level) (loops n : ℕ) (body : List Stmt) → level.loops ≡ loops → level.loops ≤ 8 → (end : ℕ) × Does (body_at parts level outer) level.at (Loop n body end) →
    left parts (looped loops n (length body) level outer) ≡ left parts (level ∷ outer)
left_looped parts level outer zero n body e few d =
    left_skip parts level outer (Loop n body d.0) d.1 (added_no_loop parts level (line_of d.1.statement) n d.0 body e)
left_looped parts level outer (suc loops) n body e few d = left_loop parts level outer loops n d.0 body e few d.1

pub cost_looped : (parts : Parts) (level : Level) (outer : List Level) (loops n : ℕ) (body : List Stmt) → level.loops ≡ loops → level.loops ≤ 8 → (end : ℕ) × Does (body_at parts level outer) level.at (Loop n body end) →
    cost parts (looped loops n (length body) level outer) < cost parts (level ∷ outer)
cost_looped parts level outer zero n body e few d = cost_skip parts level outer (Loop n body d.0) d.1
cost_looped parts level outer (suc loops) n body e few d = cost_loop parts level outer loops n d.0 body e few d.1

pub left_called : (parts : Parts) (level : Level) (outer : List Level) (calls h : ℕ) → level.calls ≡ calls → Does (body_at parts level outer) level.at (Call h) → left parts (called calls h level outer) ≡ left parts (level ∷ outer)
left_called parts level outer zero h e d =
    left_skip parts level outer (Call h) d (added_no_call parts level (line_of d.statement) h e)
left_called parts level outer (suc calls) h e d = left_call parts level outer calls h e d

pub cost_called : (parts : Parts) (level : Level) (outer : List Level) (calls h : ℕ) → level.calls ≡ calls → Does (body_at parts level outer) level.at (Call h) → cost parts (called calls h level outer) < cost parts (level ∷ outer)
cost_called parts level outer zero h e d = cost_skip parts level outer (Call h) d
cost_called parts level outer (suc calls) h e d = cost_call parts level outer calls h e d

pub shared_settled : (parts : Parts) (level : Level) (outer : List Level) (o : Operation) → Does (body_at parts level outer) level.at (action_of_operation o) → IsSettled parts level outer
shared_settled parts level outer (operation.Send n) d = AtPoint (Send n) d tt
shared_settled parts level outer (operation.Recv n) d = AtPoint (Recv n) d tt
shared_settled parts level outer (operation.Lock n) d = AtPoint (Lock n) d tt
shared_settled parts level outer (operation.Unlock n) d = AtPoint (Unlock n) d tt
shared_settled parts level outer (operation.Spawn n) d = AtPoint (Spawn n) d tt
