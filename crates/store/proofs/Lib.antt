pub mod Types
pub mod Unique
pub mod Frame
pub mod Counts
pub mod Flow
pub mod Writer
pub mod Top
