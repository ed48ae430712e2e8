-- who is told that it owns a name owns it
pub mod Owning
-- what a worker has taken
pub mod Taking
-- names are handed over one after another
pub mod HandedOver
-- what a call owes between taking the lock and giving it back
pub mod Behind
-- calls of a session one after another
pub mod Telling
-- names that are locked one after another
mod Each
mod Keys
mod Noting
-- what comes of an attempt
mod Attempts
-- what the calls of the desk are refused for
mod Refusals
