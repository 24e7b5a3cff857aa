use Rattle.gp_text.specs.Spaces.{kept}
use Rattle.gp_text.proofs.Behind.{IsBehind}
use Rattle.gp_text.proofs.faults.declared.Given as goal

abbrev pub invariant-loop-at : goal.invariant-loop-at
invariant-loop-at l = IsBehind l.before.deep (kept l.before.spaces) l.at l.said
