-- Who calls whom, and what a checked program is.
use Rattle.std.specs.Prelude.{◌≡◌, ◌+◌, ℕ, zero, suc, Bool, true, false, ◌||◌, ◌==◌, List, [], ◌∷◌, length, Option, Some, None, IsSome, nat_lt}
use Rattle.std.specs.List.{flat_map, list_any}
use Rattle.gp_isa.specs.declared.bad.Bad.{Bad}
use Rattle.gp_isa.specs.declared.bad.Bad.TheVariants.{NoMain, Empty, Recursion, TooLong, Memory}
use Rattle.gp_isa.specs.declared.parts.Parts.{Parts}
use Rattle.gp_isa.specs.declared.statement.Stmt.{Stmt}
use Rattle.gp_isa.specs.declared.statement.What.TheOpen.{Call, Loop}
use Rattle.gp_isa.specs.Statement.{Action, action_of, most_bodies}
use Rattle.gp_isa.specs.Limits.{most_points}
use Rattle.gp_isa.specs.Checked.{main_of, first_empty}
use Rattle.gp_isa.specs.Trace.{body_of, points_of, trace_within, trace}

-- the functions that an action calls; `inner` gives those of a loop's body
abbrev pub calls_of : (List Stmt → List ℕ) → Action → List ℕ
calls_of inner (Call h) = h ∷ []
calls_of inner (Loop n body end) = inner body
calls_of inner _ = []

-- the functions that statements call, in which bodies stand at most `deep` inside each other, this one included
abbrev pub calls_in : ℕ → List Stmt → List ℕ
calls_in zero body = []
calls_in (suc deep) body = flat_map (λ s. calls_of (calls_in deep) (action_of s)) body

-- the functions that function f calls
abbrev pub callees : Parts → ℕ → List ℕ
callees parts f = calls_in most_bodies (body_of parts f)

-- whether f calls h, directly or through at most `steps` others
unfoldable pub reaches : Parts → ℕ → ℕ → ℕ → Bool
reaches parts zero f h = list_any (λ g. h == g) (callees parts f)
reaches parts (suc steps) f h = list_any (λ g. (h == g) || reaches parts steps g h) (callees parts f)

-- A function can call itself. A way round passes each function once at most.
abbrev pub is_recursive : Parts → ℕ → Bool
is_recursive parts f = reaches parts (length parts.functions) f f

-- the first number below n, counted from `from`, that passes a test
abbrev pub first_from : (ℕ → Bool) → ℕ → ℕ → Option ℕ
first_from test from zero = None
first_from test from (suc n) = elim (test from) as (λ _. Option ℕ) [ true ↦ Some from | false ↦ first_from test (suc from) n ]

-- the first function that can call itself
abbrev pub first_recursive : Parts → Option ℕ
first_recursive parts = first_from (is_recursive parts) 0 (length parts.functions)

-- the first function whose trace is too long
abbrev pub first_too_long : Parts → Option ℕ
first_too_long parts = first_from (λ f. nat_lt most_points (length (trace parts f))) 0 (length parts.functions)

-- What a checked program is: main is there, no body is empty, no function can call itself, and no trace is too long.
pub record IsProgram (parts : Parts) : Type 0 where
  pub has_main : IsSome (main_of parts)
  pub none_empty : first_empty parts ≡ None
  pub none_recursive : first_recursive parts ≡ None
  pub none_too_long : first_too_long parts ≡ None

-- Why parts are no program, each cause behind the ones before it. Nothing is said of want of memory.
abbrev pub IsCause : Parts → Bad → Type 0
IsCause parts NoMain = main_of parts ≡ None
IsCause parts (Empty f) = IsSome (main_of parts) × (first_empty parts ≡ Some f)
IsCause parts (Recursion f) = IsSome (main_of parts) × (first_empty parts ≡ None) × (first_recursive parts ≡ Some f)
IsCause parts (TooLong f) =
    IsSome (main_of parts) × (first_empty parts ≡ None) × (first_recursive parts ≡ None) × (first_too_long parts ≡ Some f)
IsCause parts Memory = Unit {0}

-- In a checked program calls followed deeper give the same points, which is the equation of a call: the points of
-- a function are those of its statements, each call standing for the trace of the function called.
abbrev pub TracesAreWhole : Type 0
TracesAreWhole = (parts : Parts) (more f : ℕ) → IsProgram parts → trace_within parts (length parts.functions + more) f ≡ trace parts f

abbrev pub TracesFollowCalls : Type 0
TracesFollowCalls = (parts : Parts) (f : ℕ) → IsProgram parts → trace parts f ≡ points_of parts (trace parts) f
