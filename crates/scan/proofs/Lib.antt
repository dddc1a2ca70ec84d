pub mod Memory
pub mod Counts
pub mod Answered
pub mod Walks
pub mod Leaves
pub mod Turns
