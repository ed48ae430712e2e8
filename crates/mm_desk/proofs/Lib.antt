pub mod Counts
pub mod Names
pub mod Cuts
pub mod Keeps
pub mod Freed
pub mod Ties
