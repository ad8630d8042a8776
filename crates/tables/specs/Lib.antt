pub mod FirstPlaces
pub mod HeadPlaces
pub mod MailPlaces
pub mod Passes
pub mod Turns
