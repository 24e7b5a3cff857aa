-- The statements of a function that is there, or isn't.
use Rattle.std.proofs.Common.{◌≡◌, ℕ, ◌<◌, ◌≤◌, List, [], length, get_or, Option, Some, None, refl, ap}
use Rattle.std.proofs.lemmas.Option.{slice_get_read, slice_get_past}
use Rattle.gp_isa.specs.declared.parts.Function.{Function}
use Rattle.gp_isa.specs.declared.parts.Parts.{Parts}
use Rattle.gp_isa.specs.declared.statement.Stmt.{Stmt}
use Rattle.gp_isa.specs.Trace.{body_of}

abbrev body_in : Option Function → List Stmt
body_in found = elim found as (λ _. List Stmt) [ Some function ↦ function.body | None ↦ [] ]

pub body_of-within : (parts : Parts) (i : ℕ) (function : Function) → i < length parts.functions → function ≡ get_or parts.functions i function →
    body_of parts i ≡ function.body
body_of-within parts i function within here = ap body_in (slice_get_read parts.functions (length parts.functions) i function refl within here)

pub body_of-past : (parts : Parts) (i : ℕ) → length parts.functions ≤ i → body_of parts i ≡ []
body_of-past parts i past = ap body_in (slice_get_past parts.functions i past)
