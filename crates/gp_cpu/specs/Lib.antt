-- What a run offers to the ring.
pub mod Samples
pub mod SamplesLaw
-- Records, and what the words of the ring spell.
pub mod Records
pub mod Batch
pub mod BatchLaw
-- What records add up to.
pub mod Sums
pub mod SumsLaw
-- What is kept in between, and facts that impls cite. No public contract rests on either.
pub mod kept
pub mod laws
