-- what the manager does
pub mod ToyManager
-- what a call tells
pub mod Told
