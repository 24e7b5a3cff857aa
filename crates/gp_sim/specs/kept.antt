-- What is kept in place. No clause of a public call cites it.
pub mod Turns
pub mod Bodies
pub mod Simulation
pub mod Numbers
pub mod Acting
