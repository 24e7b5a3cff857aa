pub mod Views
pub mod Agreement
