-- what a contract sees of a lock manager
pub mod LockState
-- the numbers of an opening
pub mod Opening
-- what a call is refused for before the table is asked
pub mod Permit
-- what each refusal means
pub mod Refused
-- what the calls do
pub mod Calls
-- what each call adds to the counts
pub mod Totals
-- all that the contract of each call says, in one record a call, for the specs of crates above
pub mod Made
-- what the reads answer
pub mod Reads
-- private: what private functions' contracts cite; no public clause cites these
pub mod private
