pub mod Amid
pub mod Checks
pub mod Counting
