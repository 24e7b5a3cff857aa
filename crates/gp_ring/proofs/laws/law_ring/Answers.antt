use Rattle.gp_ring.proofs.Reading.{all-covered, head-delivered, nothing-lost, end-is-end, call-follows}
use Rattle.gp_ring.proofs.laws.law_ring.Goals as goal

pub returns-clause-covered : goal.returns-clause-covered
returns-clause-covered c = all-covered

pub returns-clause-head : goal.returns-clause-head
returns-clause-head c = head-delivered

pub returns-clause-lossless : goal.returns-clause-lossless
returns-clause-lossless c = nothing-lost

pub returns-clause-end : goal.returns-clause-end
returns-clause-end c = end-is-end

pub returns-clause-follows : goal.returns-clause-follows
returns-clause-follows c = call-follows
