pub mod Seats
pub mod Opening
