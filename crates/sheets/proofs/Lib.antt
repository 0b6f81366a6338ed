pub mod Numbers
pub mod Rows
pub mod Steps
pub mod Whole
pub mod Unique
pub mod Bounded
pub mod Answer
pub mod Judging
