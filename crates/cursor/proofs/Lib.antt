pub mod Spelled
pub mod Start
pub mod Back
