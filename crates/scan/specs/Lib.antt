pub mod Found
pub mod Counted
pub mod Walked
pub mod Steps
