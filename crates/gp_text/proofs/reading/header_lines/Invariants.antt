use Rattle.std.proofs.Common.{◌≡◌, take}
use Rattle.std.specs.Prelude.{map}
use Rattle.gp_isa.specs.declared.parts.Function.{Function}
use Rattle.gp_text.proofs.reading.header_lines.Given as goal

abbrev pub invariant-loop-function : goal.invariant-loop-function
invariant-loop-function l = l.lines.items ≡ map (λ (f : Function). f.line) (take l.function-index l.function-items)
