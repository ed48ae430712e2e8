-- which refusal of the manager is which error
pub mod Errors
-- the processes that a call is to wake
pub mod Wakes
-- whom the end of a transaction grants a name is to be woken
pub mod Noted
-- what is given out if a name is owned
pub mod Granted
-- why locks are not opened
pub mod Opening
-- what the calls do behind the lock
pub mod Calls
-- what the history says of them
pub mod History
-- what a call of a session tells
pub mod Told
-- what work that is done again may return
pub mod Run
