pub mod Copies
pub mod NameLists
pub mod Passing
