-- members of lists: of two lists in a row, of a list that is mapped, and facts of all of them
pub mod Among
-- a list that is cut at one of its members, or at a place
pub mod Cut
-- what a filter leaves, and a list without one number
pub mod Filter
-- the first member that is found
pub mod Find
-- lists in which nothing stands twice, and how long they are
pub mod NoRepeat
-- lists in order of a number
pub mod Order
-- ranges of numbers
pub mod Range
-- what is read of a list after one place of it is written
pub mod Set
-- walks through lists
pub mod Walk
