-- lists that match the spots: at first, after an item is given a spot, and after it is freed
pub mod ListsMatchSpots
-- a walk through a list, by `first` and `next`
pub mod Walk
-- the links of the fields, and what is read of them
pub mod Linked
-- the links after an item is given a spot
pub mod Given
-- the links after an item is freed
pub mod Freed
-- the records of items, as their spots and their links
pub mod Items
-- items that are freed one after the other, along the links
pub mod Path
-- the fields after all items of a list are freed
pub mod FreedAll
-- how many items each list has
pub mod Counted
