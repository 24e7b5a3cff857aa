use Rattle.std.proofs.Common.{rules}
use Rattle.gp_ring.proofs.between.writing.begin_loss.Goals as goal

pub store_lost-requires-clause-decided : goal.store_lost-requires-clause-decided
store_lost-requires-clause-decided c = search rules
