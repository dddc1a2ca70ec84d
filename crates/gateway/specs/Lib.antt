pub mod Told
pub mod Given
