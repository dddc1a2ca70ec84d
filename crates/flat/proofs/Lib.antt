pub mod Back
pub mod Extending
pub mod Staging
pub mod Flats
pub mod Noding
pub mod Flattening
