pub mod Touched
pub mod Shown
-- what the parts of a settle and of a hand-over leave, for the contracts of code that keeps a table; no public clause cites these
pub mod Steps
