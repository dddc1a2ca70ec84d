pub mod Lines
pub mod Narrow
