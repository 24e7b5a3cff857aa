use Rattle.gp_ring.proofs.Acted.{words-within}
use Rattle.gp_ring.proofs.between.taking.take_batch.Goals as goal

pub load_records-requires-clause-within : goal.load_records-requires-clause-within
load_records-requires-clause-within c = words-within _ _ _ _ c.requires.seen
