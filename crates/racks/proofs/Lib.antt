pub mod Stored
pub mod Sides
pub mod Uses
