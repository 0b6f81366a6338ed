pub mod Failing
pub mod Dead
