-- No row so far has a mark at its own place.
use Rattle.std.proofs.Common.{◌≡◌, ℕ, ◌<◌, [], false, get_or}
use Rattle.gp_isa.specs.kept.Ways.{marked}
use Rattle.gp_isa.proofs.calls.recursive_place.Given as goal

abbrev pub invariant-loop-f : goal.invariant-loop-f
invariant-loop-f l = (k : ℕ) → k < l.f → marked (get_or l.rows k []) k ≡ false
