pub mod Bits
pub mod BitSet
