pub mod Graph
pub mod Refusal
pub mod TableState
pub mod Change
pub mod Event
pub mod Laws
pub mod Victims
pub mod Rest
pub mod Withdraw
pub mod TakeBack
pub mod Adopt
-- what a table is between the parts of an event, for the contracts of code that keeps a table; no public clause cites these
pub mod Stages
