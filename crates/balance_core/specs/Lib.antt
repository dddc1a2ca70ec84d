pub mod Rows
pub mod Pending
pub mod Ready
