pub mod Marks
pub mod Touches
pub mod Spans
pub mod Gathered
pub mod Solved
pub mod Recovery
pub mod Recovering
pub mod Filling
