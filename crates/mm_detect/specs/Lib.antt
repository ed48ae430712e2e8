pub mod Answer
pub mod Ending
