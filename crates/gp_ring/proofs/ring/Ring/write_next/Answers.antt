use Rattle.gp_ring.proofs.Writing.{spelled-order}
use Rattle.gp_ring.proofs.ring.Ring.write_next.Goals as goal

pub room_one-requires-clause-words_before : goal.room_one-requires-clause-words_before
room_one-requires-clause-words_before c = spelled-order _ _ _ _ _ c.self.invariant.spelled
