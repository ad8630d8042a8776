pub mod Checks
pub mod Makes
pub mod States
