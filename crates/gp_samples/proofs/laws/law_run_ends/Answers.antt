use Rattle.gp_samples.proofs.BothEnds.{offers_grow, samples_may_be_written, settled_is_all_read}
use Rattle.gp_samples.proofs.laws.law_run_ends.Goals as goal

pub returns-clause-entries : goal.returns-clause-entries
returns-clause-entries c = offers_grow

pub returns-clause-writable : goal.returns-clause-writable
returns-clause-writable c = samples_may_be_written

pub returns-clause-end : goal.returns-clause-end
returns-clause-end c = settled_is_all_read
