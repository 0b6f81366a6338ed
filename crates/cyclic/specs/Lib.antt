pub mod Maps
pub mod Theorems
pub mod Columns
