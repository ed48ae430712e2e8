mod Moves
-- what a call owes between taking the lock and giving it back
pub mod Calls
-- calls one after another
pub mod Runs
