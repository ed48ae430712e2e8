pub mod Names
-- the hash of a name
pub mod Hash
-- private: how the fields keep what is seen; no public clause cites these
pub mod private
