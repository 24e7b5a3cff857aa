-- Each row so far has its number of marks.
use Rattle.std.proofs.Common.{◌≡◌, ◌<◌, ℕ, [], length, get_or}
use Rattle.gp_isa.specs.Limits.{most_functions}
use Rattle.gp_isa.specs.kept.Ways.{marks_below}
use Rattle.gp_isa.proofs.calls.ranks.Given as goal

abbrev pub invariant-loop-row : goal.invariant-loop-row
invariant-loop-row l = record {
  len : length l.ranks.items ≡ l.row-index;
  each : (k : ℕ) → k < l.row-index → get_or l.ranks.items k 0 ≡ marks_below (get_or l.rows k []) most_functions;
}
