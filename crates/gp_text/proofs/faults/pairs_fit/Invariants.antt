use Rattle.std.proofs.Common.{◌≡◌, ◌≤◌, ◌-◌, length}
use Rattle.gp_text.specs.Fault.{pairs_fit}
use Rattle.gp_text.proofs.faults.pairs_fit.Given as goal

abbrev pub invariant-loop-word : goal.invariant-loop-word
invariant-loop-word l = record {
  few : l.count ≤ l.most;
  left : pairs_fit l.most l.initial.pairs ≡ pairs_fit (l.most - l.count) l.pairs;
}

abbrev pub decreases-loop-word : goal.decreases-loop-word
decreases-loop-word l = length l.pairs
