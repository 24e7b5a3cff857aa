pub mod SomePoint
pub mod LiveRows
pub mod RowLists
pub mod RowsFollow
pub mod Lent
pub mod Leaving
