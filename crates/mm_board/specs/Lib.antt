pub mod Views
pub mod Waiter
pub mod Hints
pub mod Rule
pub mod Steps
pub mod private
