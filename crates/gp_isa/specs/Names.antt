-- What points name is there.
use Rattle.std.specs.Prelude.{◌≡◌, ◌≤◌, ◌<◌, ℕ, List, [], length, All}
use Rattle.gp_isa.specs.declared.parts.Parts.{Parts}
use Rattle.gp_isa.specs.InLimits.{AreInLimits}
use Rattle.gp_isa.specs.Trace.{Instruction, Local, Labels, Send, Recv, Lock, Unlock, Spawn, Point, trace}

-- What an instruction names is there: a channel, a mutex, a function, or a label set, of which 0 is the empty one.
abbrev pub IsThere : Parts → Instruction → Type 0
IsThere parts Local = Unit {0}
IsThere parts (Labels s) = s ≤ length parts.labels
IsThere parts (Send c) = c < length parts.channels
IsThere parts (Recv c) = c < length parts.channels
IsThere parts (Lock m) = m < length parts.mutexes
IsThere parts (Unlock m) = m < length parts.mutexes
IsThere parts (Spawn f) = f < length parts.functions

-- So it is at each point of a list.
abbrev pub AreThere : Parts → List Point → Type 0
AreThere parts points = All (λ point. IsThere parts point.instruction) points

-- Parts in their limits have such traces.
abbrev pub TracesNameWhatIsThere : Type 0
TracesNameWhatIsThere = (parts : Parts) (f : ℕ) → AreInLimits parts → AreThere parts (trace parts f)

-- A function that isn't there has no points.
abbrev pub NoTraceElsewhere : Type 0
NoTraceElsewhere = (parts : Parts) (f : ℕ) → length parts.functions ≤ f → trace parts f ≡ []
