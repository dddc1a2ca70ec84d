pub mod Sides
pub mod Walk
pub mod Cases
pub mod Constants
pub mod Near
pub mod Found
pub mod Forward
