pub mod Layout
pub mod Walk
