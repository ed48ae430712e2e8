pub mod End
pub mod Hints
