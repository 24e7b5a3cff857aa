use Rattle.gp_ring.proofs.Fitting.{offerable-fits}
use Rattle.gp_ring.proofs.Writing.{write-goes}
use Rattle.gp_ring.proofs.ring.Ring.write.Goals as goal

pub write_next-requires-clause-fit : goal.write_next-requires-clause-fit
write_next-requires-clause-fit c = offerable-fits _ _ c.requires

pub write_behind-requires-clause-fit : goal.write_behind-requires-clause-fit
write_behind-requires-clause-fit c = offerable-fits _ _ c.requires

pub returns-then-count_of-eq0-clause-follows : goal.returns-then-count_of-eq0-clause-follows
returns-then-count_of-eq0-clause-follows c = write-goes _ _ _ c.requires c.write_next.ensures.after

pub returns-else-count_of-eq0-clause-follows : goal.returns-else-count_of-eq0-clause-follows
returns-else-count_of-eq0-clause-follows c = write-goes _ _ _ c.requires c.write_behind.ensures.after
