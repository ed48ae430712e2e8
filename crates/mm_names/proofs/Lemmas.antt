-- the names in their places, and what is read of them
pub mod Places
-- a name that is copied in pieces
pub mod Copied
-- the places after a write
pub mod Written
-- which number stands in which list
pub mod Index
