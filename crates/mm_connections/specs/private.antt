pub mod Fits
pub mod Long
pub mod Made
pub mod Request
pub mod Served
