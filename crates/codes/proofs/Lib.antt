pub mod Fields
pub mod Logarithms
pub mod Passes
pub mod Words
