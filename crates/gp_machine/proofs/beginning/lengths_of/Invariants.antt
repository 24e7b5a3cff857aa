-- Each function so far has its number of points.
use Rattle.std.proofs.Common.{◌≡◌, ℕ, ◌<◌, length, get_or}
use Rattle.gp_isa.specs.Trace.{trace}
use Rattle.gp_machine.proofs.beginning.lengths_of.Given as goal

abbrev pub invariant-loop-f : goal.invariant-loop-f
invariant-loop-f l = record {
  len : length l.lengths.items ≡ l.f;
  each : (k : ℕ) → k < l.f → get_or l.lengths.items k 0 ≡ length (trace l.program k);
}
