use Rattle.std.proofs.Common.{◌≡◌, ℕ, List, ◌++◌, length, map}
use Rattle.gp_wire.specs.Packed.{packed_at}
use Rattle.gp_wire.proofs.PackedLemmas.{with_front}
use Rattle.gp_wire.proofs.packed.push_numbers.Given as goal

-- The numbers so far were pushed, and they in front of those of the rest are all.
abbrev pub invariant-loop-rest : goal.invariant-loop-rest
invariant-loop-rest g l =
    (seen : List ℕ) × (l.items.items ≡ l.initial.items.items ++ map g.T.Word.of_word seen) × (with_front seen (packed_at l.rest) ≡ packed_at l.bytes)

abbrev pub decreases-loop-rest : goal.decreases-loop-rest
decreases-loop-rest g l = length l.rest
