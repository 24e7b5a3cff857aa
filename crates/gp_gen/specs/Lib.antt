-- The generated program.
pub mod Generated
pub mod GeneratedLaw
