-- What the contracts of private functions cite. No public clause cites these files.

-- how the lists are found
pub mod Lists
-- what a call tells of them
pub mod Told
-- what a call does by which resources are handed over
pub mod Ends
-- what holds of every settled table
pub mod Settled
