pub mod Counted
pub mod Publishing
pub mod Replies
pub mod Opening
