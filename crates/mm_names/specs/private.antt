pub mod Places
pub mod Spots
pub mod Index
-- what the bytes of a length mean
pub mod Length
