use Rattle.std.proofs.Common.{◌≡◌, ℕ, List, length}
use Rattle.gp_wire.specs.Packed.{packed_at}
use Rattle.gp_wire.proofs.PackedLemmas.{with_front}
use Rattle.gp_wire.proofs.packed.check_packed.Given as goal

abbrev pub invariant-loop-rest : goal.invariant-loop-rest
invariant-loop-rest l = (seen : List ℕ) × (with_front seen (packed_at l.rest) ≡ packed_at l.bytes)

abbrev pub decreases-loop-rest : goal.decreases-loop-rest
decreases-loop-rest l = length l.rest
