-- Where a body stands: levels, the innermost first. What they leave of the trace is the points that are still to
-- come.
use Rattle.std.specs.Prelude.{◌-◌, ◌==◌, ℕ, zero, suc, Bool, cond, List, [], ◌∷◌, ◌++◌, map, drop, Some, None, slice_get}
use Rattle.gp_isa.specs.declared.frame.Frame.{Frame}
use Rattle.gp_isa.specs.declared.parts.Parts.{Parts}
use Rattle.gp_isa.specs.declared.statement.Stmt.{Stmt}
use Rattle.gp_isa.specs.Limits.{most_loops}
use Rattle.gp_isa.specs.Statement.{line_of}
pub use Rattle.gp_isa.specs.Statement.{loop_body, body_inside}
use Rattle.gp_isa.specs.Trace.{Point, repeated, points_of_body, body_of, trace_within}
use Rattle.gp_stack.specs.declared.level.Level.{Level}

-- whether a level is the body of its function, and not of a loop in it
abbrev pub is_base : Level → Bool
is_base level = level.loops == most_loops

-- the line of statement `at` of a body
abbrev pub line_at : List Stmt → ℕ → ℕ
line_at body at = elim (slice_get body at) as (λ _. ℕ) [ Some s ↦ line_of s | None ↦ 0 ]

-- The statements of a level: those of its function, or of the loop in which the next outer level is.
unfoldable pub body_at : Parts → Level → List Level → List Stmt
body_at parts level [] = body_of parts level.function
body_at parts level (around ∷ outer) =
    cond (is_base level) (body_of parts level.function) (body_inside (body_at parts around outer) (around.at - 1))

-- the frame of a level in which a call is followed
unfoldable pub frame_of : Parts → Level → List Level → Frame
frame_of parts level outer = record { function = level.function; line = line_at (body_at parts level outer) (level.at - 1) }

-- the frames of those who called, where `called` says whether the first level has called
unfoldable pub callers : Parts → Bool → List Level → List Frame
callers parts called [] = []
callers parts called (level ∷ outer) =
    cond called (frame_of parts level outer ∷ callers parts (is_base level) outer) (callers parts (is_base level) outer)

-- a point with the frames of callers put last
abbrev pub called_from : List Frame → Point → Point
called_from frames point = record { stack = point.stack ++ frames; instruction = point.instruction }

-- the points of a function called, where calls are followed `depth` deep
abbrev pub points_of_call : Parts → ℕ → ℕ → List Point
points_of_call parts zero f = []
points_of_call parts (suc depth) f = trace_within parts depth f

-- the points of statements at a level
abbrev pub points_of_statements : Parts → Level → List Stmt → List Point
points_of_statements parts level body = points_of_body (points_of_call parts level.calls) level.function (suc level.loops) body

-- the points that are left of a level, with the frames of its function alone
unfoldable pub left_here : Parts → Level → List Stmt → List Point
left_here parts level body =
    points_of_statements parts level (drop level.at body) ++ repeated level.turns (points_of_statements parts level body)

-- The points that are left: those of the innermost level, and then those of the others.
unfoldable pub left : Parts → List Level → List Point
left parts [] = []
left parts (level ∷ outer) =
    map (called_from (callers parts (is_base level) outer)) (left_here parts level (body_at parts level outer)) ++ left parts outer

-- the frame of the statement at a level
unfoldable pub leaf_of : Parts → Level → List Level → Frame
leaf_of parts level outer = record { function = level.function; line = line_at (body_at parts level outer) level.at }
