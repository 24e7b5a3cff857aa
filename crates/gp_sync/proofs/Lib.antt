pub mod Counts
pub mod Chains
pub mod Linking
pub mod Parts
pub mod Standing
