-- What the contracts of private functions cite. No public clause cites these files.

-- names and owners by number
pub mod Numbers
-- a try by number
pub mod Requests
-- a table with names, and a call that hands over
pub mod Handed
-- hand-overs by number
pub mod HandsDown
-- what holds of every lock manager
pub mod Manager
-- what is read
pub mod Reads
-- what is left for the ends of transactions
pub mod Room
