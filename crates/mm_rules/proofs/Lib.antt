-- the wait-for graph by itself; the states of a table and their laws; worked examples
pub mod Graph
pub mod States
pub mod Transcript
pub mod WorkedRows
