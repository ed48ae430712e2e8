-- what becomes of a transaction that asked for an account
pub mod Next
