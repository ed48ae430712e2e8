pub mod Added
pub mod Marked
pub mod Pass
pub mod Detects
pub mod Changed
pub mod Settling
pub mod Vacating
