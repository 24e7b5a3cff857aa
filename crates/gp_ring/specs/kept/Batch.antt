-- A batch: the words of records in order, without marks.
use Rattle.std.specs.Prelude.{ℕ, List, length}
use Rattle.std.specs.List.{flat_map}
use Rattle.gp_ring.specs.kept.Slots.{records_at}

-- the words of the n records from data count c on
abbrev pub in_order : List ℕ → ℕ → ℕ → List ℕ
in_order xs n c = flat_map (λ ws. ws) (records_at xs (length xs) n c)
