-- What is kept in place. No clause of a public call cites it.
pub mod Following
pub mod Locked
pub mod Reading
pub mod Roles
pub mod Ending
pub mod Turns
pub mod Idling
