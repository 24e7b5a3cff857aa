-- What a body keeps in place, and what that stands for.
pub mod Level
pub mod Ahead
pub mod Place
pub mod Cost
pub mod Climb
pub mod Looks
pub mod Passing
pub mod Standing
