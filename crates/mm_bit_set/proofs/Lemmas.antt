-- one bit of the words is written
pub mod Written
-- the first bit at or above a place
pub mod First
-- the numbers of a range that pass a test
pub mod Ranges
-- a walk over the bits of one word
pub mod Listed
-- the two levels and the bounds
pub mod Levels
-- walks from word to word
pub mod Walks
