pub mod Parts
pub mod Copy
pub mod Pack
pub mod Taking
pub mod Held
