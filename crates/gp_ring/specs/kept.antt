pub mod Slots
pub mod Fields
pub mod Batch
pub mod Traces
pub mod Views
pub mod RingRule
pub mod Halves
