-- How a table is kept: what invariants and the contracts of private functions cite. No public clause cites these files.

-- what the fields of `Records` stand for, and what holds of them
pub mod Records
-- what holds of every `Table`
pub mod Table
-- the labels of all processes
pub mod Labels
-- labels that are shown, and the label limit
pub mod LabelLimit
-- a label that a waiting process gets anew
pub mod Renewal
