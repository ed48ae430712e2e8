-- what lists of lines say of what is left of them
pub mod Lists
-- what is written piece by piece
pub mod Pieces
-- a cycle, transaction by transaction, and that it is told
pub mod Cycle
pub mod Told
-- lists whose members change places, lists that rise, and the names that a reply tells of a transaction
pub mod Permuted
pub mod Rising
pub mod First
pub mod Part
-- no request changes the numbers of the manager's table
pub mod Config
