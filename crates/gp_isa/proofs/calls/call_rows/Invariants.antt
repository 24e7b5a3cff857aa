-- Each function so far has its row.
use Rattle.std.proofs.Common.{◌≡◌, ℕ, ◌<◌, [], length, get_or}
use Rattle.gp_isa.specs.Calls.{callees}
use Rattle.gp_isa.specs.kept.Ways.{is_among, marked}
use Rattle.gp_isa.proofs.calls.call_rows.Given as goal

abbrev pub invariant-loop-function : goal.invariant-loop-function
invariant-loop-function l = record {
  len : length l.rows.items ≡ l.function-index;
  calls : (k h : ℕ) → k < l.function-index → marked (get_or l.rows.items k []) h ≡ is_among h (callees l.parts k);
}
