-- what events leave of the slots of others
pub mod Slots
pub mod Events
-- what a hand-over leaves of another transaction
pub mod Left
-- each request
pub mod Requests
-- who is live no longer
pub mod Dead
