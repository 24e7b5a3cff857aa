use Rattle.std.proofs.Common.{refl}
use Rattle.gp_workers.proofs.run.run_all.Goals as goal

pub run_named-requires-clause-made : goal.run_named-requires-clause-made
run_named-requires-clause-made g c = λ lives longer. record { its_book = refl; its_ring = c.in_ok-made.ensures.ring; empty = c.in_ok-made.ensures.journal }
