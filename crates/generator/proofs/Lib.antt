pub mod Parity
pub mod Images
pub mod Decide
pub mod Shapes
pub mod Verdicts
pub mod Ranges
