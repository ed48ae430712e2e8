-- what a write of one link leaves of the others
pub mod Writes
-- the first and the last of a list
pub mod Ends
-- chains, their parts, and what a write leaves of them
pub mod Chain
-- a place that is put first in a chain
pub mod PutFirst
-- a place that is taken out of a chain
pub mod TakenOut
