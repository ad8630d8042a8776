pub mod Bags
pub mod Counts
pub mod Found
pub mod FoundItems
pub mod Refilling
pub mod Rewritten
pub mod Searches
pub mod SentItems
