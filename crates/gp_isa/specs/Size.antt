-- How many frames the stacks of traces have, whether all points of a trace are of one kind, and which shared point comes
-- first.
use Rattle.std.specs.Prelude.{ℕ, zero, suc, ◌+◌, Bool, true, false, cond, ◌&&◌, max, List, [], ◌∷◌, length, Option, Some, None}
use Rattle.gp_isa.specs.declared.parts.Parts.{Parts}
use Rattle.gp_isa.specs.declared.size.Shared.{Shared}
use Rattle.gp_isa.specs.declared.size.Shared.TheVariants as shared
use Rattle.gp_isa.specs.Trace.{Instruction, Local, Labels, Send, Recv, Lock, Unlock, Spawn, is_local, Point, trace}

-- the most frames of a stack of the points
abbrev pub most_frames : List Point → ℕ
most_frames [] = 0
most_frames (point ∷ points) = max (length point.stack) (most_frames points)

-- the most frames of a stack in the traces of the first n functions
abbrev pub most_frames_below : (ℕ → List Point) → ℕ → ℕ
most_frames_below traces zero = 0
most_frames_below traces (suc n) = max (most_frames_below traces n) (most_frames (traces n))

-- The depth of a program: the most frames of any stack of any point of any function's trace, of the functions that
-- main never reaches too.
abbrev pub depth_of : Parts → ℕ
depth_of parts = most_frames_below (trace parts) (length parts.functions)

-- whether an instruction is one of work
abbrev pub is_work : Instruction → Bool
is_work Local = true
is_work _ = false

-- whether the instructions of all points pass a test
abbrev pub all_pass : (Instruction → Bool) → List Point → Bool
all_pass test [] = true
all_pass test (point ∷ points) = test point.instruction && all_pass test points

-- what a shared point does
abbrev pub shared_of : Instruction → Option Shared
shared_of Local = None
shared_of (Labels set) = None
shared_of (Send c) = Some (shared.Send c)
shared_of (Recv c) = Some (shared.Recv c)
shared_of (Lock m) = Some (shared.Lock m)
shared_of (Unlock m) = Some (shared.Unlock m)
shared_of (Spawn f) = Some (shared.Spawn f)

-- how many local points come before the first shared one, or in all where there is none
abbrev pub local_before : List Point → ℕ
local_before [] = 0
local_before (point ∷ points) = cond (is_local point.instruction) (local_before points + 1) 0

-- what the first shared point does
abbrev pub first_shared : List Point → Option Shared
first_shared [] = None
first_shared (point ∷ points) = cond (is_local point.instruction) (first_shared points) (shared_of point.instruction)
