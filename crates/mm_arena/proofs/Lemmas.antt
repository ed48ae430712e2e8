-- what a contract sees of a shelf, as its places are read and written
pub mod Stored
-- the processes along the links, and what a write of one slot leaves of them
pub mod IsChain
-- what an insert and a remove update, as their keys see it
pub mod Updates
-- how each change of a slot keeps the layout, and what a contract sees of it
pub mod Layout
-- an arena that was never used
pub mod OpeningSlots
-- what holds after each run of calls
pub mod AfterAll
-- a free process has no value and is listed once, over each run of calls
pub mod AreFree
-- the law over each run of calls
pub mod RemovedIsNeverLive
