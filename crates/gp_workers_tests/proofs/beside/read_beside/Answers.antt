use Rattle.std.proofs.Common.{refl}
use Rattle.gp_workers_tests.proofs.beside.read_beside.Goals as goal

pub read_named-requires-clause-made : goal.read_named-requires-clause-made
read_named-requires-clause-made g c = record { its_book = refl; its_ring = c.in_ok-made.ensures.ring; empty = c.in_ok-made.ensures.journal }
