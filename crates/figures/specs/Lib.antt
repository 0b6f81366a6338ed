pub mod Judged
pub mod Multiplied
pub mod Parities
