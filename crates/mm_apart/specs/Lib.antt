-- what a request leaves of the transactions that it does not name
pub mod Apart
