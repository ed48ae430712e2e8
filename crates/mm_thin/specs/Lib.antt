pub use Rattle.mm_lists.specs.Members
pub use Rattle.mm_names.specs.Hash
-- to which bucket a name belongs
pub mod Spread
-- what the parts know, and how it changes
pub mod Views
-- the rule
pub mod Rule
-- the kinds of step
pub mod Steps
-- what ties the parts to their words
pub mod Parts
-- how an office is opened
pub mod Opening
-- what the calls answer
pub mod Calls
