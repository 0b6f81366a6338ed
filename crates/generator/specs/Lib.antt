pub mod Matrix
pub mod Judge
