-- Any profile of samples, in the order in which a reader needs it.
pub mod FirstNeed
pub mod Site
pub mod Numbers
pub mod Message
-- The goroutine profile: its samples, and the profile of these.
pub mod Shown
pub mod Samples
pub mod Profile
-- The block and mutex profiles of sums of waits.
pub mod Contention
-- The CPU profile of the records of samples.
pub mod Cpu
-- What a profile means.
pub mod Meant
-- What is kept in between, and proofs that members of impls cite. No public contract rests on either.
pub mod kept
pub mod laws
