pub mod Additions
pub mod Absorbing
pub mod Fields
pub mod Bytes
pub mod Evens
pub mod Encoded
