-- names and owners by number
pub mod Numbers
-- what a hand-over leaves of owners
pub mod Owners
-- what one event leaves of owners and waits
pub mod HandsDown
-- from numbers to names
pub mod Names
-- what a request does, by names
pub mod Answered
pub mod Asked
-- what an adoption leaves of owners, laws and reserves
pub mod Adopted
-- from a table with names to what a contract sees
pub mod Told
-- what an unlock of whatever name a transaction owns does
pub mod UnlockAny
-- a manager that was just opened
pub mod Opening
-- a wait that is taken back
pub mod TakesBack
-- what a hand-over leaves of names
pub mod Forgets
-- what a request leaves of names and owners
pub mod Requests
pub mod Entered
-- what is known of a transaction that may make a call
pub mod May
-- what a refusal is of a call that may be made
pub mod Limits
pub mod Unowned
pub mod Unlocks
-- who waits, and for what
pub mod Reads
-- what an event leaves of labels and waits
pub mod Labels
-- how many live transactions, waits and owned numbers an event leaves
pub mod Fewer
-- what is left for the ends of transactions
pub mod Room
-- no count passes that of the table's events
pub mod Counted
-- no call takes labels but a request that meets another owner
pub mod CallLabels
