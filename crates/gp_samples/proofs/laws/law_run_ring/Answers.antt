use Rattle.gp_samples.proofs.Rounded.{rounded_is_next}
use Rattle.gp_samples.proofs.Keeping.{begun_keeps, entry_keeps, read_keeps, sample_offerable, bodies_are_sampled, all_read}
use Rattle.gp_samples.proofs.laws.law_run_ring.Goals as goal

pub returns-clause-begun : goal.returns-clause-begun
returns-clause-begun c = begun_keeps

pub returns-clause-entries : goal.returns-clause-entries
returns-clause-entries c = λ program settings journal records ring range keeps. entry_keeps program settings range journal records ring keeps

pub returns-clause-reads : goal.returns-clause-reads
returns-clause-reads c = λ program settings journal records ring range keeps. read_keeps program settings range journal records ring keeps

pub returns-clause-offerable : goal.returns-clause-offerable
returns-clause-offerable c = λ program settings journal records ring range keeps. sample_offerable program settings range journal records ring keeps

pub returns-clause-bodies : goal.returns-clause-bodies
returns-clause-bodies c = bodies_are_sampled

pub returns-clause-end : goal.returns-clause-end
returns-clause-end c = λ program settings journal records ring range keeps. all_read program settings range journal records ring keeps

pub returns-clause-sizes : goal.returns-clause-sizes
returns-clause-sizes c = rounded_is_next
