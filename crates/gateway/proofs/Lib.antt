pub mod Given
pub mod Telling
