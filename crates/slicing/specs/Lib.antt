pub mod Slice
pub mod Answer
pub mod Rebasing
pub mod Cutting
