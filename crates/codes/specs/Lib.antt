pub mod Blocks
pub mod Doubling
pub mod Layout
pub mod Byte
pub mod Divisors
pub mod Additive
pub mod Matrices
pub mod Shift
