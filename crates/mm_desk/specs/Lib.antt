-- how many names of each bucket a lock manager has
pub mod Books
-- how the counts are kept while several names change at once
pub mod Tally
-- what a contract sees of a desk
pub mod Desk
-- why a desk is not opened
pub mod Opening
-- what calls do
pub mod Calls
-- what the calls for all buckets do
pub mod All
