pub mod Sites
pub mod Handed
pub mod Noting
pub mod Typing
pub mod Pushing
pub mod Rebuilding
pub mod Writing
pub mod Calling
