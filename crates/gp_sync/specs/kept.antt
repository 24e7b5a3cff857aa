-- What the crate keeps in place, and what that stands for.
pub mod Links
pub mod Layout
pub mod WaitList
