-- What a core keeps in place, what that stands for, and what its calls test.
pub mod Tests
pub mod Core
