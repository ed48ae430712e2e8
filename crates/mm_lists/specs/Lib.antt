pub mod Members
pub mod Order
pub mod Walk
