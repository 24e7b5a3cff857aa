pub mod RunRing
pub mod RunRingLaw
pub mod RunEnds
pub mod RunEndsLaw
