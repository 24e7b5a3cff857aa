pub mod Recorder
pub mod Events
pub mod History
pub mod kept
