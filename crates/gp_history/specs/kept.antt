-- What is kept in place. No clause of a public call cites it.
pub mod Recorder
pub mod Waits
pub mod History
