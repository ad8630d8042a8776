pub mod Delivering
pub mod Lent
pub mod Making
pub mod Reading
pub mod Swapping
pub mod Writing
