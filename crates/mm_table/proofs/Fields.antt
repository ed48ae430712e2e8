-- What the fields of `Records` stand for, and what each change of them means: from the code to the definitions.

-- one field: the labels, the owners
pub mod Labels
pub mod Ownership
pub mod FreedAll
-- the opening
pub mod Opening
-- a queue that is walked, one that is blocked, a resource that is handed over
pub mod Walk
pub mod Adding
pub mod BlockQueue
pub mod HandOver
-- what an event gives
pub mod Gives
-- tables, by any event
pub mod Table
-- a withdrawal
pub mod Withdraw
