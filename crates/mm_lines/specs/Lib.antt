-- tests of bytes
pub mod Cut
-- the words of a line, and what they spell
pub mod Words
-- the words of a line as they are taken
pub mod WordsLeft
-- how bytes are cut into lines
pub mod Lines
-- the bytes that are held
pub mod Input
-- the bytes that are written, kept or lost
pub mod Output
-- what lines are answered
pub mod Text
