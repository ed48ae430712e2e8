pub mod BitSet
-- private: how the words keep a set; no public clause cites these
pub mod private
