-- which connection began a transaction, after each change
pub mod Begun
-- lines to a connection, as they are printed and written
pub mod Lines
-- what a request came to
pub mod Outcomes
-- no request changes the numbers of the table
pub mod Config
-- a part of a hang-up, one transaction after the other
pub mod Drops
-- a part of an end, and what it leaves
pub mod Parts
-- what a hang-up leaves
pub mod HangUp
-- the connection that a line names is one of those that there are, and a request of several names is short
pub mod Said
-- a transaction that begins has one of the slots
pub mod Within
-- what `status` answers
pub mod Status
-- how many words a line has, and how long they are
pub mod Few
pub mod Short
-- connections are apart, and over a run
pub mod Apart
pub mod Runs
