-- What is kept in place. No clause of a public call cites it.
pub mod Ending
pub mod World
pub mod Entering
pub mod Workers
