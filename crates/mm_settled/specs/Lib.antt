-- what a contract sees of a settled table
pub mod SettledState
-- the grants of a call
pub mod Grants
-- what the calls do
pub mod Calls
-- private: what private functions' contracts cite; no public clause cites these
pub mod private
