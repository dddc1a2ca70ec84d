pub mod Running
pub mod Answer
pub mod Lent
