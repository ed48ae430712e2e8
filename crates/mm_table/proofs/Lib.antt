-- what each change of the fields of `Records` means
pub mod Fields
-- the laws of states, passed on
pub use Rattle.mm_rules.proofs.States
