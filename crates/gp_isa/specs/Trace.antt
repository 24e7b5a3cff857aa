-- The trace of a function: the points that whoever runs it passes, one after another. The code never builds this
-- list.
use Rattle.std.specs.Prelude.{◌≡◌, refl, ℕ, zero, suc, Bool, true, false, List, [], ◌∷◌, ◌++◌, length, map, replicate, Some, None, slice_get}
use Rattle.std.specs.List.{flat_map}
use Rattle.gp_isa.specs.declared.frame.Frame.{Frame}
use Rattle.gp_isa.specs.declared.parts.Parts.{Parts}
use Rattle.gp_isa.specs.declared.statement.Stmt.{Stmt}
use Rattle.gp_isa.specs.declared.statement.What.TheOpen.{Work, Call, Loop, Send as SendStatement, Recv as RecvStatement, Lock as LockStatement, Unlock as UnlockStatement, Spawn as SpawnStatement, Labels as LabelsStatement}
use Rattle.gp_isa.specs.Statement.{Action, action_of, line_of, most_bodies}

-- What is done at a point: an instruction of work, or that the goroutine's labels become a set; these two are
-- local. Or, at a shared point, an operation on a channel or a mutex, or the birth of a goroutine.
pub data Instruction : Type 0 where
  Local : Instruction
  Labels : (set : ℕ) → Instruction
  Send : (channel : ℕ) → Instruction
  Recv : (channel : ℕ) → Instruction
  Lock : (mutex : ℕ) → Instruction
  Unlock : (mutex : ℕ) → Instruction
  Spawn : (function : ℕ) → Instruction

-- whether only the goroutine itself is touched
abbrev pub is_local : Instruction → Bool
is_local Local = true
is_local (Labels set) = true
is_local _ = false

-- A point is its stack, the leaf first, and what is done there.
pub record Point : Type 0 where
  pub stack : List Frame
  pub instruction : Instruction

-- a point at a line of function f, with that one frame
abbrev pub point_at : ℕ → ℕ → Instruction → Point
point_at f line instruction = record { stack = record { function = f; line = line } ∷ []; instruction = instruction }

-- A call at a line of function f puts that frame last on a point of the function called.
abbrev pub called_at : ℕ → ℕ → Point → Point
called_at f line point = record { stack = point.stack ++ record { function = f; line = line } ∷ []; instruction = point.instruction }

-- a list n times, one after another
abbrev pub repeated : ℕ → List Point → List Point
repeated zero points = []
repeated (suc n) points = points ++ repeated n points

-- The points of what a statement at a line of function f does. `calls` gives the points of a function called,
-- `inner` those of a loop's body.
abbrev pub points_at : (ℕ → List Point) → (List Stmt → List Point) → ℕ → ℕ → Action → List Point
-- `work n` is n local points
points_at calls inner f line (Work n) = replicate n (point_at f line Local)
-- `labels s` is one local point
points_at calls inner f line (LabelsStatement s) = point_at f line (Labels s) ∷ []
-- `loop n` gives the points of its body n times
points_at calls inner f line (Loop n body end) = repeated n (inner body)
-- a call has no point of its own
points_at calls inner f line (Call h) = map (called_at f line) (calls h)
-- the others are one shared point each
points_at calls inner f line (SendStatement c) = point_at f line (Send c) ∷ []
points_at calls inner f line (RecvStatement c) = point_at f line (Recv c) ∷ []
points_at calls inner f line (LockStatement m) = point_at f line (Lock m) ∷ []
points_at calls inner f line (UnlockStatement m) = point_at f line (Unlock m) ∷ []
points_at calls inner f line (SpawnStatement h) = point_at f line (Spawn h) ∷ []

-- The points of statements of function f, in which bodies stand at most `deep` inside each other, this one included.
abbrev pub points_of_body : (ℕ → List Point) → ℕ → ℕ → List Stmt → List Point
points_of_body calls f zero body = []
points_of_body calls f (suc deep) body =
    flat_map (λ s. points_at calls (points_of_body calls f deep) f (line_of s) (action_of s)) body

-- the statements of function f, none where there is no such function
abbrev pub body_of : Parts → ℕ → List Stmt
body_of parts f = elim (slice_get parts.functions f) as (λ _. List Stmt) [
  | Some function ↦ function.body
  | None ↦ []
]

-- the points of function f, where `calls` gives those of the functions that it calls
abbrev pub points_of : Parts → (ℕ → List Point) → ℕ → List Point
points_of parts calls f = points_of_body calls f most_bodies (body_of parts f)

-- the points of function f, with calls followed `depth` deep
unfoldable pub trace_within : Parts → ℕ → ℕ → List Point
trace_within parts zero f = points_of parts (λ _. []) f
trace_within parts (suc depth) f = points_of parts (trace_within parts depth) f

-- The trace of function f. Where no function can call itself, calls go no deeper than there are functions.
unfoldable pub trace : Parts → ℕ → List Point
trace parts f = trace_within parts (length parts.functions) f

-- Two examples at line 3 of function 0: a call of a function with one point, and a loop of two turns.
a_call : points_at (λ h. point_at h 8 Local ∷ []) (λ body. []) 0 3 (Call 1)
    ≡ record { stack = record { function = 1; line = 8 } ∷ record { function = 0; line = 3 } ∷ []; instruction = Local } ∷ []
a_call = refl

a_loop : points_at (λ h. []) (λ body. point_at 0 4 (Send 0) ∷ []) 0 3 (Loop 2 [] 5)
    ≡ point_at 0 4 (Send 0) ∷ point_at 0 4 (Send 0) ∷ []
a_loop = refl
