pub mod TaggedLists
pub use Rattle.mm_lists.specs.Members
-- private: how the fields keep what is seen; no public clause cites these
pub mod private
