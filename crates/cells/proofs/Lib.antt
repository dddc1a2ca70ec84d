pub mod Reading
pub mod Rings
pub mod Scanning
pub mod PartLoop
pub mod Links
pub mod Walking
pub mod Passing
mod Naming
