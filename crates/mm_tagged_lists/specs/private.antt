pub mod Counted
pub mod Kept
pub mod Linked
pub mod Path
