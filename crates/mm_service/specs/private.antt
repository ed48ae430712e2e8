pub mod Forms
pub mod Holds
pub mod Long
