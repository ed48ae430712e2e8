-- the list of edges is that of the waits
pub mod Edges
-- a walk along the waits finds the cycle, or shows that there is none
pub mod Walks
