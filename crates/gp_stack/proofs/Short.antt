-- The traces of a checked program are short enough to be counted.
use Rattle.std.proofs.Common.{◌≡◌, ◌<◌, ◌≤◌, ◌^◌, ℕ, false, length, nat_lt, arith}
use Rattle.gp_isa.specs.declared.parts.Parts.{Parts}
use Rattle.gp_isa.specs.Limits.{most_points}
use Rattle.gp_isa.specs.Calls.{IsProgram}
use Rattle.gp_isa.specs.Trace.{trace}
use Rattle.gp_isa.proofs.First.{each_fails}

not_above : (most n : ℕ) → nat_lt most n ≡ false → n ≤ most
not_above most n e = grind arith

pub trace_fits : (parts : Parts) (f : ℕ) → IsProgram parts → f < length parts.functions → length (trace parts f) < 2 ^ 64
trace_fits parts f program within =
    let fails : nat_lt most_points (length (trace parts f)) ≡ false = each_fails (λ g. nat_lt most_points (length (trace parts g))) 0 (length parts.functions) program.none_too_long f (omega arith) (omega arith) in
    let few : length (trace parts f) ≤ 2 ^ 40 = not_above most_points (length (trace parts f)) fails in
    omega arith
