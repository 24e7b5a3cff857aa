-- The lines that tell why a command did nothing.
use Rattle.std.specs.Prelude.{ℕ, List, [], ◌∷◌, ◌++◌, codes}
use Rattle.std.specs.Fmt.{decimal}
use Rattle.gp_report.specs.declared.refusal.Fault.{Fault}
use Rattle.gp_report.specs.declared.refusal.Fault.TheVariants.{Usage, Line, At, Long, Read}

-- the end of a line, which is a line feed
abbrev pub line_end : List ℕ
line_end = 10 ∷ []

-- a line of two numbers, each behind a text
abbrev pub two_numbers : List ℕ → ℕ → List ℕ → ℕ → List ℕ
two_numbers text a between b = text ++ (decimal a ++ (between ++ (decimal b ++ line_end)))

-- the line of each refusal
abbrev pub fault_line : Fault → List ℕ
fault_line (Usage place cause) = two_numbers (codes "usage ") place (codes " ") cause
fault_line (Line line cause) = two_numbers (codes "refused line ") line (codes " cause ") cause
fault_line (At at cause) = two_numbers (codes "refused at ") at (codes " cause ") cause
fault_line Long = codes "refused long" ++ line_end
fault_line Read = codes "read fault" ++ line_end
