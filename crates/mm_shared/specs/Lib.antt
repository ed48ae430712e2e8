pub mod Booked
pub mod Published
-- private: what private functions cite; no public clause cites these
pub mod private
