mod AsBox
pub mod Behind
mod DeskAsBox
mod DeskValues
pub mod Kept
mod Nobody
mod Values
mod WorkerAsBox
mod WorkerValues
