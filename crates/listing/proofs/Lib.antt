pub mod Opens
pub mod Lines
pub mod Turns
pub mod Begins
pub mod Writes
pub mod Cases
pub mod Unlisted
