pub mod LabelSet
pub mod Entry
