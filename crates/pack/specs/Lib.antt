pub mod Copying
pub mod Taking
