pub mod Layout
pub mod Stored
pub mod LendingStored
