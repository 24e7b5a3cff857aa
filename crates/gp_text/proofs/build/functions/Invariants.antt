use Rattle.std.proofs.Common.{◌≡◌, ◌+◌, ◌++◌, drop}
use Rattle.gp_text.specs.Reading.{functions_at}
use Rattle.gp_text.specs.Spaces.{kept}
use Rattle.gp_text.proofs.build.functions.Given as goal

abbrev pub invariant-loop-at : goal.invariant-loop-at
invariant-loop-at l = l.functions ++ functions_at (kept l.spaces) (l.at + 1) (drop l.at l.said) ≡ functions_at (kept l.spaces) 1 l.said
