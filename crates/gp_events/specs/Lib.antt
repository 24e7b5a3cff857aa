-- Events by stack: their sums, and the order of these.
pub mod Event
pub mod Sums
pub mod Order
pub mod SumsLaw
-- Which events are kept at a fraction.
pub mod Fraction
pub mod FractionLaw
-- What is kept in between, and proofs that members of impls cite. No public contract rests on either.
pub mod kept
pub mod laws
