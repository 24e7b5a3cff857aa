-- So many lists of rows are made, all empty.
use Rattle.std.proofs.Common.{◌≡◌, replicate}
use Rattle.gp_history.specs.kept.Recorder.{vacant}
use Rattle.gp_history.proofs.recorder.reserved.Given as goal

abbrev pub invariant-loop : goal.invariant-loop
invariant-loop l = l.spare.items ≡ replicate l.counter (vacant l.each)
