pub mod Woken
pub mod AtRest
pub mod AtLimit
pub mod Shown
pub mod RolledBack
