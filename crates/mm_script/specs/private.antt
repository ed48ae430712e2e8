pub mod Forms
pub mod Long
