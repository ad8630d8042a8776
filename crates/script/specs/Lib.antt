pub mod CallKinds
pub mod Scripts
pub mod Openings
pub mod Texts
