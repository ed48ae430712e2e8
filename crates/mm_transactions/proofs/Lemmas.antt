-- slots: what a live key tells of its slot, and what a write of one slot changes
pub mod Slots
-- the wait of each process, read off its slot
pub mod Arrivals
-- the waits in order of arrival, from the wait of each process
pub mod Waits
-- the queues, whatever the waits are read off
pub mod Linked
-- changes that leave the waits as they were, and what is read of them
pub mod Consistent
pub mod Told
pub mod Lawful
-- the opening; a transaction begins, ends, gets a verdict, starts to wait and stops
pub mod Opening
pub mod Begin
pub mod End
pub mod Verdict
pub mod Start
pub mod Stop
-- a walk through a queue
pub mod Walk
