pub mod Blocks
pub mod Codeword
pub mod Encoding
pub mod Sums
pub mod WordMaps
