pub mod Tallies
pub mod Runs
pub mod Promises
pub mod Laws
pub mod Samples
