-- where the first of some bytes stands
pub mod Cut
-- where bytes are cut into lines, whatever follows
pub mod Lines
-- lines at the front of bytes that are answered
pub mod Leads
-- numbers that fit and that do not
pub mod Number
-- what is written, kept or lost
pub mod Output
-- what was read, answered and written so far
pub mod Reached
-- what lines are answered
pub mod Text
-- the first word of a line, and the others
pub mod Words
