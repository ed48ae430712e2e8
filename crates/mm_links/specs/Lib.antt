pub mod Link
pub mod Links
pub mod Chain
