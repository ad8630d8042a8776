pub mod AmidHeads
pub mod CountedItems
pub mod Following
pub mod Refusals
pub mod Replying
