-- What a machine keeps in place, and what that stands for.
pub mod IdSet
pub mod Ring
pub mod Crowd
pub mod Workers
pub mod Present
pub mod Made
