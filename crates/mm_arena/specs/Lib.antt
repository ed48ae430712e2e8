pub mod Key
pub mod Slots
pub mod Calls
pub mod Lending
pub mod Shelf
pub mod LendingShelf
-- private: how the slots are kept; no public clause cites these
pub mod private
