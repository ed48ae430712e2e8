-- the history, and what a pass knows of it
pub mod History
-- the rule of the table
pub mod Rule
-- what clauses say of a lock and its passes
pub mod Mutex
