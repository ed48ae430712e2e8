pub mod Wake
pub mod Counts
