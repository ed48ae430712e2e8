-- hand-overs: who owns what afterwards, whose wait ended, and that verdicts stay
pub mod HandsOn
pub mod Accepted
pub mod Ends
-- whom a call granted what
pub mod Grants
pub mod Numbers
pub mod Released
pub mod Changed
pub mod Told
pub mod Loops
pub mod Fits
-- that the table is at rest again
pub mod Quiet
pub mod Refused
pub mod Rest
pub mod Withdrawn
pub mod EndsAs
pub mod Lock
