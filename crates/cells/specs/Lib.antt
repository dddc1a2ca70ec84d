-- What `accept` promises, and what the private functions promise each other.
pub mod Accept
pub mod Read
pub mod Steps
pub mod Open
pub mod Parts
