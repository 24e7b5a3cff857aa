use Rattle.std.proofs.Common.{◌≡◌, ℕ, ◌<◌, length, get_or}
use Rattle.gp_build.specs.kept.Ranks.{AreByName, IsPlace}
use Rattle.gp_build.proofs.ranks.Ranks.new.Given as goal

abbrev pub invariant-loop-f : goal.invariant-loop-f
invariant-loop-f l = record {
  ordered : AreByName l.parts l.order.items;
  long : length l.places.items ≡ l.f;
  each : (g : ℕ) → g < l.f → IsPlace l.parts l.order.items (get_or l.places.items g 0) g;
}
