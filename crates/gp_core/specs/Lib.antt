pub mod CoreState
pub mod Enabled
pub mod Stepped
pub mod Events
pub mod Invariant
pub mod CoreLaws
pub mod WorkedEvents
pub mod kept
